-- The ranks from the first up are the last ones of the text.
use Rattle.std.proofs.Common.{◌≡◌, ℕ, ◌+◌, ◌-◌, ◌<◌, ◌≤◌, ◌++◌, List, length, drop, Some, None, refl, sym, ap, ◌∙◌, arith, length-append}
use Rattle.std.specs.List.{slice_get}
use Rattle.std.proofs.lemmas.Grind.{common_steps}
use Rattle.fen_text.specs.Seen.{optional_bytes}
use Rattle.fen_text.specs.Squares.{pieces_if_both, pieces_on_ranks, rank_in_text, ranks_in, pieces_in_field}
use Rattle.fen_text.proofs.Joined.{joined-none, pieces_lost, lower_more}
use Rattle.fen_text.proofs.squares.read_squares.Goals as goal

-- a rank that is none
lost : (field : List ℕ) (k : ℕ) (upper : List ℕ) → length (ranks_in field) ≡ 8 → k < 8 → slice_get (ranks_in field) (7 - k) ≡ Some upper → rank_in_text upper ≡ None → pieces_in_field field ≡ None
lost field k upper eight h at wrong =
    let e : pieces_on_ranks (ranks_in field) ≡ None = pieces_lost (ranks_in field) (8 - (k + 1)) (lower_more (ranks_in field) k upper eight h at ∙ ap (pieces_if_both (pieces_on_ranks (drop (8 - k) (ranks_in field)))) wrong ∙ joined-none _) in
    rw (eight, e) refl

pub returns-in_err-row : goal.returns-in_err-row
returns-in_err-row c =
    c.from_residual-in_err-row.ensures ∙ sym (lost c.args.field.now c.loop-rank.rank c.in_ok-nth_rank.field-0.now c.loop-rank.invariant.ranks (omega arith) (sym c.nth_rank.ensures ∙ ap optional_bytes c.in_ok-nth_rank.was) (sym c.read_rank.ensures ∙ c.in_err-row.was))

pub loop-rank-preserved : goal.loop-rank-preserved
loop-rank-preserved c =
    let more = lower_more (ranks_in c.args.field.now) c.loop-rank.rank c.in_ok-nth_rank.field-0.now c.loop-rank.invariant.ranks (omega arith) (sym c.nth_rank.ensures ∙ ap optional_bytes c.in_ok-nth_rank.was) in
    let row : rank_in_text c.in_ok-nth_rank.field-0.now ≡ Some c.in_ok-row.row = sym c.read_rank.ensures ∙ c.in_ok-row.was in
    let pieces : pieces_if_both (pieces_on_ranks (drop (8 - c.loop-rank.rank) (ranks_in c.args.field.now))) (rank_in_text c.in_ok-nth_rank.field-0.now) ≡ Some (c.loop-rank.squares.items ++ c.in_ok-row.row) = rw (c.loop-rank.invariant.pieces, row) refl in
    let fits : length c.loop-rank.squares.items + length c.in_ok-row.row ≤ 64 = omega arith in
    let put : c.try_extend_from_slice.new.self.items ≡ c.loop-rank.squares.items ++ c.in_ok-row.row = grind (arith, common_steps) in
    record { pieces = more ∙ pieces ∙ ap Some (sym put); count = rw (put, length-append) (omega arith); ranks = c.loop-rank.invariant.ranks }
