-- All four letters are there at most once.
use Rattle.std.proofs.Common.{◌≡◌, ℕ, List, Some, true, Bool, refl, sym, ◌∙◌}
use Rattle.std.specs.List.{list_all}
use Rattle.chess_board.specs.declared.board.Variant.TheVariants.{Normal}
use Rattle.fen_text.specs.Fields.{is_right, at_most_once, file_if, letters_of}
use Rattle.fen_text.proofs.fields.read_letters.Goals as goal

found : (field : List ℕ) (wk wq bk bq : Bool) → list_all is_right field ≡ true → at_most_once 75 field ≡ Some wk → at_most_once 81 field ≡ Some wq → at_most_once 107 field ≡ Some bk → at_most_once 113 field ≡ Some bq → letters_of field ≡ Some (record { variant = Normal; wk = file_if wk 7; wq = file_if wq 0; bk = file_if bk 7; bq = file_if bq 0 })
found field wk wq bk bq all k q l r = rw (all, k, q, l, r) refl

pub returns : goal.returns
returns c =
    rw (c.file_if.ensures, c.file_if-2.ensures, c.file_if-3.ensures, c.file_if-4.ensures) (sym (found c.args.field.now c.in_ok-wk.wk c.in_ok-wq.wq c.in_ok-bk.bk c.in_ok-bq.bq (sym c.are_rights.ensures ∙ c.if-not-are_rights.false)
    (sym c.at_most_once.ensures ∙ c.in_ok-wk.was) (sym c.at_most_once-2.ensures ∙ c.in_ok-wq.was) (sym c.at_most_once-3.ensures ∙ c.in_ok-bk.was) (sym c.at_most_once-4.ensures ∙ c.in_ok-bq.was)))
