-- Trusted: the signs as terminals.
use Rattle.dk_lexer.specs.declared.token.Sign.TheVariants as sign
use Rattle.dk_terms.specs.declared.terminal.Terminal.{Terminal}
use Rattle.dk_terms.specs.declared.terminal.Terminal.TheVariants as terminal

abbrev pub colon : Terminal
colon = terminal.Sign sign.Colon

abbrev pub defined : Terminal
defined = terminal.Sign sign.Defined

abbrev pub dot : Terminal
dot = terminal.Sign sign.Dot

abbrev pub arrow : Terminal
arrow = terminal.Sign sign.Arrow

abbrev pub double_arrow : Terminal
double_arrow = terminal.Sign sign.DoubleArrow

abbrev pub open_bracket : Terminal
open_bracket = terminal.Sign sign.OpenBracket

abbrev pub close_bracket : Terminal
close_bracket = terminal.Sign sign.CloseBracket

abbrev pub open_square : Terminal
open_square = terminal.Sign sign.OpenSquare

abbrev pub close_square : Terminal
close_square = terminal.Sign sign.CloseSquare

abbrev pub open_brace : Terminal
open_brace = terminal.Sign sign.OpenBrace

abbrev pub close_brace : Terminal
close_brace = terminal.Sign sign.CloseBrace

abbrev pub comma : Terminal
comma = terminal.Sign sign.Comma

abbrev pub long_arrow : Terminal
long_arrow = terminal.Sign sign.LongArrow

abbrev pub equal : Terminal
equal = terminal.Sign sign.Equal
