-- For callers: a command whose terms are stored, as plain data.
pub use Rattle.shared_term.specs.Commands.{stored_command}
