use Rattle.std.proofs.Common.{[], ◌∷◌, refl}
use Rattle.certificate_lines.specs.declared.line.Line.TheVariants.{Part}
use Rattle.certificate_items.specs.Texts.{lines_of}
use Rattle.certificate_items.specs.Views.{plain_items}
use Rattle.certificate_text.proofs.Texts.{lines_then, lines_stop, lines_short}
use Rattle.certify_theory.proofs.part.put_part.Goals as goal

pub returns-in-Ok-clause-put : goal.returns-in-Ok-clause-put
returns-in-Ok-clause-put g c = lines_then (Part c.args.number ∷ lines_of (plain_items c.args.items.now)) (Part c.args.number ∷ []) (lines_of (plain_items c.args.items.now)) refl c.in-Ok.ensures.put c.put_items.ensures.put

pub returns-in-Ok-clause-short : goal.returns-in-Ok-clause-short
returns-in-Ok-clause-short g c = lines_short c.put_items.result (Part c.args.number ∷ lines_of (plain_items c.args.items.now)) (Part c.args.number ∷ []) (lines_of (plain_items c.args.items.now)) refl
    (c.put_line.ensures.short, tt) c.put_items.ensures.short

pub returns-in-Err-clause-put : goal.returns-in-Err-clause-put
returns-in-Err-clause-put g c = lines_stop (Part c.args.number ∷ lines_of (plain_items c.args.items.now)) (Part c.args.number ∷ []) (lines_of (plain_items c.args.items.now)) refl c.in-Err.ensures.put
