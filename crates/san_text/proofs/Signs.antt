-- The text of a move as a function.
use Rattle.std.proofs.Common.{◌≡◌, inl, inr, ℕ, List, [], ◌∷◌, ◌++◌, Bool, true, false, cond, refl, ap, ◌∙◌}
use Rattle.std.specs.Bool.{Decides}
use Rattle.chess_board.specs.Attack.{is_checked}
use Rattle.chess_board.specs.Laws.{IsChecked}
use Rattle.chess_board.specs.Place.{has_any_way}
use Rattle.chess_board.specs.Position.{Position}
use Rattle.chess_board.specs.Play.{HasLegal}
use Rattle.chess_board.proofs.Legal.{checked-law}
use Rattle.chess_board.proofs.Ways.{way-law}
use Rattle.san_text.specs.Writing.{body, position_after_move, sign, san_of_move, IsCheckMark, IsTheText}

sign_by : (p : Position) (mark : List ℕ) (checked moves : Bool)
    → Decides checked (IsChecked p.pieces p.side) → Decides moves (HasLegal p) → IsCheckMark p mark
    → mark ≡ cond checked (cond moves (43 ∷ []) (35 ∷ [])) []
sign_by p mark true true c m (inl h) = absurd (h.1.1 (m.0 refl))
sign_by p mark true false c m (inl h) = h.0
sign_by p mark false moves c m (inl h) = let e = c.1 h.1.0 in cc
sign_by p mark true true c m (inr (inl h)) = h.0
sign_by p mark true false c m (inr (inl h)) = let e = m.1 h.1.1 in cc
sign_by p mark false moves c m (inr (inl h)) = let e = c.1 h.1.0 in cc
sign_by p mark true moves c m (inr (inr h)) = absurd (h.1 (c.0 refl))
sign_by p mark false moves c m (inr (inr h)) = h.0

mark_by : (p : Position) (checked moves : Bool)
    → Decides checked (IsChecked p.pieces p.side) → Decides moves (HasLegal p)
    → IsCheckMark p (cond checked (cond moves (43 ∷ []) (35 ∷ [])) [])
mark_by p true true c m = inr (inl (refl, (c.0 refl, m.0 refl)))
mark_by p true false c m = inl (refl, (c.0 refl, λ h. let e = m.1 h in cc))
mark_by p false moves c m = inr (inr (refl, λ h. let e = c.1 h in cc))

sign_is : (p : Position) (mark : List ℕ) → IsCheckMark p mark → mark ≡ sign p
sign_is p mark h =
    sign_by p mark (is_checked p.pieces p.side) (has_any_way p) (checked-law p.pieces p.side) (way-law p) h

is_sign : (p : Position) → IsCheckMark p (sign p)
is_sign p = mark_by p (is_checked p.pieces p.side) (has_any_way p) (checked-law p.pieces p.side) (way-law p)

pub the_text : IsTheText
unfolding san_of_move
the_text p m text = (
  λ w. w.whole ∙ ap (λ (mark : List ℕ). body p m ++ mark) (sign_is (position_after_move p m) w.mark w.fits),
  λ e. record { mark = sign (position_after_move p m); fits = is_sign (position_after_move p m); whole = e },
)
