-- One more rank after a slash.
use Rattle.std.proofs.Common.{◌≡◌, ℕ, suc, ◌-◌, List, ◌++◌, ◌∷◌, [], refl, sym, ap, subst, ◌∙◌, arith, append_assoc, append-nil}
use Rattle.chess_board.specs.Board.{Pieces}
use Rattle.fen_text.specs.Written.{rank_text, rank_row, lower_ranks, top_rank, board_text}
use Rattle.fen_text.proofs.write.write_board.Goals as goal

one_more : (pieces : Pieces) (k j : ℕ) (old slashed new : List ℕ) → k ≡ suc j → slashed ≡ old ++ 47 ∷ [] → new ≡ slashed ++ rank_text 0 (rank_row pieces j) → new ++ lower_ranks pieces j ≡ old ++ lower_ranks pieces k
one_more pieces k j old slashed new n s r = rw (n, r, s) (simp append_assoc)

last : (pieces : Pieces) (k : ℕ) (text start old : List ℕ) → k ≡ 0 → text ++ lower_ranks pieces k ≡ start ++ lower_ranks pieces top_rank → start ≡ old ++ rank_text 0 (rank_row pieces top_rank) → text ≡ old ++ board_text pieces
unfolding board_text
last pieces k text start old z inv first =
    let all : text ++ lower_ranks pieces 0 ≡ start ++ lower_ranks pieces top_rank = subst (λ (n : ℕ). text ++ lower_ranks pieces n ≡ start ++ lower_ranks pieces top_rank) z inv in
    sym (append-nil text) ∙ all ∙ ap (λ (s : List ℕ). s ++ lower_ranks pieces top_rank) first ∙ append_assoc old _ _

pub loop-rank-init : goal.loop-rank-init
unfolding top_rank
loop-rank-init c = record { text = refl; short = omega arith }

pub loop-rank-preserved : goal.loop-rank-preserved
loop-rank-preserved c = record {
  text = one_more c.args.p.now.pieces c.loop-rank.rank (c.loop-rank.rank - 1) c.loop-rank.text.items c.push.new.self.items c.write_rank-in-loop-rank.new.text.items (omega arith) c.push.ensures.items c.write_rank-in-loop-rank.ensures.text ∙ c.loop-rank.invariant.text;
  short = omega arith;
}

pub returns-clause-text : goal.returns-clause-text
unfolding top_rank
returns-clause-text c =
    last c.args.p.now.pieces c.loop-rank.rank c.loop-rank.text.items c.write_rank.new.text.items c.args.text.now.items (omega arith) c.loop-rank.invariant.text c.write_rank.ensures.text
