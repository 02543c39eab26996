-- Room for pieces that are put one after the other.
use Rattle.std.proofs.Common.{◌≡◌, ℕ, ◌+◌, ◌≤◌, List, [], ◌∷◌, ◌++◌, true, false, cond, length, sym, ap, ◌∙◌, arith, length-append, append_assoc}
use Rattle.line_io.specs.Out.{Text, with}
use Rattle.option_map.specs.DeclaredOptions.Names.{same_text}
use Rattle.option_map.specs.DeclaredOptions.Choices.{with_quotes, with_star}

pub room_here : (now old : Text) (piece more all whole : List ℕ) → all ≡ piece ++ more → with now all ≡ with old whole → length old.text + length whole ≤ old.room → length now.text + length piece ≤ now.room
room_here now old piece more all whole e f h =
    let long : length (now.text ++ all) ≡ length (old.text ++ whole) = ap (λ (t : Text). length t.text) f in
    let same : now.room ≡ old.room = ap (λ (t : Text). t.room) f in
    let cut : length all ≡ length (piece ++ more) = ap length e in
    omega (arith, long, same, cut, length-append now.text all, length-append old.text whole, length-append piece more, h)

pub room_behind : (now old : Text) (piece more all whole : List ℕ) → all ≡ piece ++ more → with now all ≡ with old whole → length old.text + length whole ≤ old.room → length (now.text ++ piece) + length more ≤ now.room
room_behind now old piece more all whole e f h =
    let long : length (now.text ++ all) ≡ length (old.text ++ whole) = ap (λ (t : Text). length t.text) f in
    let same : now.room ≡ old.room = ap (λ (t : Text). t.room) f in
    let cut : length all ≡ length (piece ++ more) = ap length e in
    omega (arith, long, same, cut, length-append now.text all, length-append old.text whole, length-append piece more, length-append now.text piece, h)

pub star_here : (default v : List ℕ) (all vs : List (List ℕ)) → all ≡ v ∷ vs → same_text default v ≡ true → with_quotes (with_star default all) ≡ ((42 ∷ v) ++ 34 ∷ []) ++ with_quotes vs
star_here default v all vs e h = ap (λ (l : List (List ℕ)). with_quotes (with_star default l)) e ∙ ap (λ w. with_quotes (cond w ((42 ∷ v) ∷ vs) (v ∷ with_star default vs))) h

pub star_later : (default v : List ℕ) (all vs : List (List ℕ)) → all ≡ v ∷ vs → same_text default v ≡ false → with_quotes (with_star default all) ≡ (v ++ 34 ∷ []) ++ with_quotes (with_star default vs)
star_later default v all vs e h = ap (λ (l : List (List ℕ)). with_quotes (with_star default l)) e ∙ ap (λ w. with_quotes (cond w ((42 ∷ v) ∷ vs) (v ∷ with_star default vs))) h

-- room for the last number of a spin
pub spin_room : (o a b d e f : Text) (w x y z : List ℕ) → a ≡ with o w → b ≡ with a x → d ≡ with b (32 ∷ []) → e ≡ with d y → f ≡ with e (32 ∷ []) → length o.text + (length w + length x + length y + length z + 2) ≤ o.room → length f.text + length z ≤ f.room
spin_room o a b d e f w x y z p q r s t h =
    let la : length a.text ≡ length o.text + length w = ap (λ (u : Text). length u.text) p ∙ length-append o.text w in
    let lb : length b.text ≡ length a.text + length x = ap (λ (u : Text). length u.text) q ∙ length-append a.text x in
    let ld : length d.text ≡ length b.text + 1 = ap (λ (u : Text). length u.text) r ∙ length-append b.text (32 ∷ []) in
    let le : length e.text ≡ length d.text + length y = ap (λ (u : Text). length u.text) s ∙ length-append d.text y in
    let lf : length f.text ≡ length e.text + 1 = ap (λ (u : Text). length u.text) t ∙ length-append e.text (32 ∷ []) in
    let room : f.room ≡ o.room = ap (λ (u : Text). u.room) t ∙ ap (λ (u : Text). u.room) s ∙ ap (λ (u : Text). u.room) r ∙ ap (λ (u : Text). u.room) q ∙ ap (λ (u : Text). u.room) p in
    omega (arith, la, lb, ld, le, lf, room, h)

pub put_on : (now old new : Text) (piece more all whole : List ℕ) → new ≡ with now piece → all ≡ piece ++ more → with now all ≡ with old whole → with new more ≡ with old whole
put_on now old new piece more all whole e f g =
    ap (λ (t : Text). with t more) e ∙ ap (λ (t : List ℕ). record { text = t; room = now.room }) (append_assoc now.text piece more) ∙ ap (λ (t : List ℕ). with now t) (sym f) ∙ g
