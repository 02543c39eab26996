-- The first of the legal moves.
use Rattle.std.proofs.Common.{◌≡◌, ℕ, zero, suc, ◌<◌, List, [], ◌∷◌, length, get_or, ◌≤◌, Option, Some, None, refl, sym, ap, ◌∙◌, subst, ◌⊎◌, inl, inr, arith}
use Rattle.std.specs.Prelude.{◌↔◌, Contains, AllPairs}
use Rattle.chess_board.specs.declared.board.Move.{Move}
use Rattle.chess_board.specs.Position.{Position}
use Rattle.chess_board.specs.Laws.{IsLegal}
use Rattle.chess_board.specs.Text.{ComesBefore, AreLegalMoves}
use Rattle.driver_state_machine.specs.Moves.{IsFirstMove}

-- any other stands after it
other : (first : Move) (rest : List Move) (m : Move) (k : ℕ) → AllPairs ComesBefore (first ∷ rest) → k < length (first ∷ rest) → get_or (first ∷ rest) k m ≡ m → (m ≡ first) ⊎ ComesBefore first m
other first rest m zero ordered within is = inl (sym is)
other first rest m (suc k) ordered within is = inr (subst (ComesBefore first) is (ordered 0 (suc k) m (omega arith) within))

pub none_first : (p : Position) → AreLegalMoves p [] → IsFirstMove p None
none_first p are = λ m legal. let found = (are.each m).1 legal in absurd (omega (arith, found.1))

pub some_first : (p : Position) (first : Move) (rest : List Move) → AreLegalMoves p (first ∷ rest) → IsFirstMove p (Some first)
some_first p first rest are = ((are.each first).0 (0, omega arith, refl), λ m legal. let found = (are.each m).1 legal in other first rest m found.0 are.ordered found.1 found.2)

-- the same, as a call that lists the moves knows it

pub none_in : (p : Position) (items slice : List Move) → slice ≡ items → length slice < 1 → ((m : Move) → Contains items m ↔ IsLegal p m.from.index m.to.index m.promotion) → IsFirstMove p None
none_in p items slice e few each = λ m legal. let found = (each m).1 legal in let same = ap length e in absurd (omega (arith, found.1, same))

pub some_in : (p : Position) (items slice : List Move) (first : Move) → slice ≡ items → 1 ≤ length slice → first ≡ get_or slice 0 first
    → ((m : Move) → Contains items m ↔ IsLegal p m.from.index m.to.index m.promotion) → AllPairs ComesBefore items → IsFirstMove p (Some first)
some_in p [] slice first e some is each ordered = let same = ap length e in absurd (omega (arith, same))
some_in p (f ∷ rest) slice first e some is each ordered =
    let at : first ≡ f = is ∙ ap (λ (ms : List Move). get_or ms 0 first) e in
    subst (λ (m : Move). IsFirstMove p (Some m)) (sym at) (some_first p f rest (record { each = each; ordered = ordered }))
