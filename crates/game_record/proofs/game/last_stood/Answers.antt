-- The last occurrence tells how often the position stood.
use Rattle.std.proofs.Common.{◌≡◌, ℕ, zero, suc, ◌+◌, ◌-◌, ◌<◌, List, [], ◌∷◌, true, length, drop, get_or, refl, sym, ap, ◌∙◌, arith}
use Rattle.chess_board.specs.Position.{Position}
use Rattle.game_record.specs.Ending.{is_same, stood_in}
use Rattle.game_record.proofs.Times.{stood_found}
use Rattle.game_record.proofs.Recent.{stood_nowhere}
use Rattle.game_record.proofs.game.last_stood.Goals as goal

inside : (xs : List Position) (i : ℕ) (a b : Position) → i < length xs → get_or xs i a ≡ get_or xs i b
inside [] i a b h = absurd (omega arith)
inside (x ∷ xs) zero a b h = refl
inside (x ∷ xs) (suc i) a b h = inside xs i a b (omega arith)

pub returns-then-is_same : goal.returns-then-is_same
returns-then-is_same c =
    let k : ℕ = c.loop-i.i - 1 in
    let low : k < length c.args.later.now = omega arith in
    let n : k + 1 ≡ c.loop-i.i = omega arith in
    let at : c.index-later-i.result ≡ get_or c.args.later.now k c.args.start.now = c.index-later-i.is ∙ inside c.args.later.now k c.index-later-i.result c.args.start.now low in
    let same : is_same c.args.p.now (get_or c.args.later.now k c.args.start.now) ≡ true = ap (is_same c.args.p.now) (sym at) ∙ sym c.is_same.ensures ∙ c.if-is_same.true in
    let none : stood_in c.args.p.now (drop (k + 1) c.args.later.now) ≡ 0 = ap (λ (i : ℕ). stood_in c.args.p.now (drop i c.args.later.now)) n ∙ c.loop-i.invariant.none in
    c.requires.times.each k low ∙ stood_found c.args.p.now c.args.start.now c.args.later.now k low same none

pub returns-then-oldest-gt0 : goal.returns-then-oldest-gt0
returns-then-oldest-gt0 c =
    let first : c.loop-i.i ≡ length c.args.later.now - c.args.p.now.half = omega arith in
    sym (stood_nowhere c.args.p.now c.args.start.now c.args.later.now c.loop-i.i first (omega arith) c.requires.behind c.loop-i.invariant.none)
