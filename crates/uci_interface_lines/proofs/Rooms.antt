-- Room for the next piece of a text.
use Rattle.std.proofs.Common.{◌≡◌, ℕ, ◌+◌, ◌≤◌, List, ◌++◌, length, length-append, ap, arith}
use Rattle.line_io.specs.Out.{Text, with}

pub room_for : (now old : Text) (piece others all : List ℕ) → with now (piece ++ others) ≡ with old all → length old.text + length all ≤ old.room → length now.text + length piece ≤ now.room
room_for now old piece others all e h =
    let texts = ap (λ (t : Text). length t.text) e in
    let rooms = ap (λ (t : Text). t.room) e in
    omega (arith, texts, rooms, length-append now.text (piece ++ others), length-append piece others, length-append old.text all)
