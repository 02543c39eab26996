-- What a line of other words cannot break.
use Rattle.std.proofs.Common.{◌≡◌, ℕ, ◌+◌, List, Bool, true, false, cond, ◌||◌, Option, Some, None, refl, arith, ne_eqb}
use Rattle.std.specs.Prelude.{◌==◌, nat_lt}
use Rattle.chess_board.specs.declared.board.Move.{Move}
use Rattle.chess_board.specs.Position.{Position}
use Rattle.engine_conduct.specs.declared.search.Pondering.{Pondering}
use Rattle.engine_conduct.specs.declared.words.EngineWord.{EngineWord}
use Rattle.engine_conduct.specs.declared.words.EngineWord.TheVariants as engines
use Rattle.engine_conduct.specs.Broken.{breaks_move, breaks_ponder, breaks_pv, breaks_searchmoves, is_best_word}
use Rattle.engine_conduct.specs.Known.{more}

-- TESTS

pub or_first : (x y : Bool) → (x || y) ≡ false → x ≡ false
or_first true y e = e
or_first false y e = refl

pub or_second : (x y : Bool) → (x || y) ≡ false → y ≡ false
or_second true y e = absurd (cc)
or_second false y e = e

-- one more is not nothing
pub more_some : (n : ℕ) → (more n == 0) ≡ false
more_some n = by (nat_lt n 18446744073709551615) where
  by : (z : Bool) → (cond z (n + 1) 18446744073709551615 == 0) ≡ false
  by true = ne_eqb (n + 1) 0 (λ e. omega (arith, e))
  by false = refl

-- WHAT OTHER WORDS BREAK

pub move_none : (p : Option (Position × Pondering)) (w : EngineWord) (line : List ℕ) → is_best_word w ≡ false → breaks_move p w line ≡ false
move_none None w line e = refl
move_none (Some p) engines.Best line e = absurd (cc)
move_none (Some p) w line e = refl

pub ponder_none : (p : Option (Position × Pondering)) (w : EngineWord) (line : List ℕ) → is_best_word w ≡ false → breaks_ponder p w line ≡ false
ponder_none None w line e = refl
ponder_none (Some p) engines.Best line e = absurd (cc)
ponder_none (Some p) w line e = refl

abbrev pub is_info : EngineWord → Bool
is_info engines.Info = true
is_info w = false

pub pv_none : (p : Option (Position × Pondering)) (w : EngineWord) (line : List ℕ) → is_info w ≡ false → breaks_pv p w line ≡ false
pv_none None w line e = refl
pv_none (Some p) engines.Info line e = absurd (cc)
pv_none (Some p) w line e = refl

pub listed_none : (p : Option (Position × Pondering)) (l : List Move) (w : EngineWord) (line : List ℕ) → is_best_word w ≡ false → is_info w ≡ false → breaks_searchmoves p l w line ≡ false
listed_none None l w line e f = refl
listed_none (Some p) l engines.Best line e f = absurd (cc)
listed_none (Some p) l engines.Info line e f = absurd (cc)
listed_none (Some p) l w line e f = refl
