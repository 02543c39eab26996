-- The rest of the text has the rest of the form, if the whole text has the form.
use Rattle.std.proofs.Common.{◌≡◌, drop}
use Rattle.cecp_lines.specs.San.{has_form}
use Rattle.cecp_engine_lines.proofs.san.has_form.Given as goal

abbrev pub invariant-loop-place : goal.invariant-loop-place
invariant-loop-place l = has_form (drop l.place-index l.form) l.rest ≡ has_form l.form l.text
