-- For callers: names, as the symbols so far and the modules that are read.
use Rattle.scope_terms.specs.Modules.{reading_of}
use Rattle.scope_terms.specs.Reading.{Reading}
use Rattle.scope_terms.specs.declared.names.Names.{Names}

abbrev pub reading : Names → Reading
reading names = reading_of names.modules names.entered.items names.symbols.items names.count
