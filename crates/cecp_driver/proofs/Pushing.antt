-- A move that may be played is.
use Rattle.std.proofs.Common.{◌≡◌, ℕ, ◌<◌, ◌≤◌, Bool, true, false, ◌&&◌, cond, ltb, List, [], ◌∷◌, length, Option, Some, None, Result, Ok, Err, refl, sym, ap, ◌∙◌, arith}
use Rattle.std.specs.Prelude.{◌↔◌, IsTrue, OnOk}
use Rattle.std.specs.Bool.{OnTrue, OnFalse}
use Rattle.std.specs.Result.{is_ok}
use Rattle.std.proofs.lemmas.Bool.Decides.{nat_tests}
use Rattle.chess_board.specs.declared.board.Move.{Move}
use Rattle.chess_board.specs.Place.{legal}
use Rattle.chess_board.proofs.Legal.{legal-law}
use Rattle.game_record.specs.declared.game.PlayFault.{PlayFault}
use Rattle.game_record.specs.declared.game.PlayFault.TheVariants.{Illegal, TooLong}
use Rattle.game_record.specs.Game.{Game, ply_of, current_position, with_ply, IsPlayablePly}
use Rattle.cecp_driver.specs.Ordered.{push_one, game_after_texts}

-- the outcome of a try, by the tests of a move
record IsTried (r : Result (Unit {0}) PlayFault) (left next : Option Game) : Type 0 where
  done : is_ok r ≡ true → next ≡ left
  refused : is_ok r ≡ false → next ≡ None

tried_by : (is_legal has_room : Bool) (P F : Type 0) (r : Result (Unit {0}) PlayFault) (g' next : Game) → (IsTrue is_legal ↔ P) → (has_room ≡ false ↔ F)
    → ((r ≡ Err Illegal) ↔ (P → ⊥)) → ((r ≡ Err TooLong) ↔ (P × F)) → OnOk r (g' ≡ next) → IsTried r (Some g') (cond (is_legal && has_room) (Some next) None)
tried_by true true P F (Ok u) g' next l f i t ok = record { done = λ _. ap (λ (x : Game). Some x) (sym ok); refused = λ e. absurd (cc) }
tried_by false room P F (Ok u) g' next l f i t ok = absurd (let e : Ok u ≡ Err Illegal = i.1 (λ p. let no : false ≡ true = l.1 p in absurd (cc)) in cc)
tried_by true false P F (Ok u) g' next l f i t ok = absurd (let e : Ok u ≡ Err TooLong = t.1 (l.0 refl, f.0 refl) in cc)
tried_by false room P F (Err e) g' next l f i t ok = record { done = λ e. absurd (cc); refused = λ _. refl }
tried_by true false P F (Err e) g' next l f i t ok = record { done = λ e. absurd (cc); refused = λ _. refl }
tried_by true true P F (Err Illegal) g' next l f i t ok = absurd (i.0 refl (l.0 refl))
tried_by true true P F (Err TooLong) g' next l f i t ok = absurd (let e : true ≡ false = f.1 (t.0 refl).1 in cc)

full : (g : Game) (most : ℕ) → length g.moves ≤ most → (ltb (length g.moves) most ≡ false) ↔ (length g.moves ≡ most)
full g most few = (λ e. grind (arith, nat_tests), λ e. grind (arith, nat_tests))

tried : (g g' : Game) (m : Move) (r : Result (Unit {0}) PlayFault) → length g.moves ≤ 12000 → ((r ≡ Err Illegal) ↔ (IsPlayablePly (current_position g) (ply_of m) → ⊥))
    → ((r ≡ Err TooLong) ↔ (IsPlayablePly (current_position g) (ply_of m) × (length g.moves ≡ 12000))) → OnOk r (g' ≡ with_ply g (ply_of m)) → IsTried r (Some g') (push_one g (Some m))
tried g g' m r few illegal long ok =
    tried_by (legal (current_position g) m) (ltb (length g.moves) 12000) _ _ r g' (with_ply g (ply_of m)) (legal-law (current_position g) m.from.index m.to.index m.promotion) (full g 12000 few) illegal long ok

on_true : (b : Bool) (P : Type 0) → (b ≡ true → P) → OnTrue b P
on_true true P f = f refl
on_true false P f = tt

on_false : (b : Bool) (P : Type 0) → (b ≡ false → P) → OnFalse b P
on_false true P f = tt
on_false false P f = f refl

pub try_done : (g g' : Game) (m : Move) (o : Option Move) (b : Bool) (r : Result (Unit {0}) PlayFault) → o ≡ Some m → b ≡ is_ok r → length g.moves ≤ 12000 → ((r ≡ Err Illegal) ↔ (IsPlayablePly (current_position g) (ply_of m) → ⊥))
    → ((r ≡ Err TooLong) ↔ (IsPlayablePly (current_position g) (ply_of m) × (length g.moves ≡ 12000))) → OnOk r (g' ≡ with_ply g (ply_of m)) → OnTrue b (push_one g o ≡ Some g')
try_done g g' m o b r e f few illegal long ok = on_true b _ (λ t. ap (push_one g) e ∙ (tried g g' m r few illegal long ok).done (sym f ∙ t))

pub try_refused : (g g' : Game) (m : Move) (o : Option Move) (b : Bool) (r : Result (Unit {0}) PlayFault) → o ≡ Some m → b ≡ is_ok r → length g.moves ≤ 12000 → ((r ≡ Err Illegal) ↔ (IsPlayablePly (current_position g) (ply_of m) → ⊥))
    → ((r ≡ Err TooLong) ↔ (IsPlayablePly (current_position g) (ply_of m) × (length g.moves ≡ 12000))) → OnOk r (g' ≡ with_ply g (ply_of m)) → OnFalse b (push_one g o ≡ None)
try_refused g g' m o b r e f few illegal long ok = on_false b _ (λ t. ap (push_one g) e ∙ (tried g g' m r few illegal long ok).refused (sym f ∙ t))

none_pushed : (ts : List (List ℕ)) → game_after_texts ts None ≡ None
none_pushed [] = refl
none_pushed (t ∷ ts) = refl

pub push_none : (ts others : List (List ℕ)) (t : List ℕ) (g : Game) (one : Option Game) → ts ≡ t ∷ others → game_after_texts (t ∷ others) (Some g) ≡ game_after_texts others one → one ≡ None → game_after_texts ts (Some g) ≡ None
push_none ts others t g one e f n = ap (λ (xs : List (List ℕ)). game_after_texts xs (Some g)) e ∙ f ∙ ap (game_after_texts others) n ∙ none_pushed others
