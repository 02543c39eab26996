-- Words with blanks between them.
use Rattle.std.proofs.Common.{◌≡◌, ℕ, ◌<◌, ◌≤◌, ◌-◌, List, [], ◌∷◌, ◌++◌, length, get_or, take, drop, append-nil, sym, ap, refl, ◌∙◌, arith}
use Rattle.std.specs.Prelude.{Vec, vec_items}
use Rattle.std.proofs.lemmas.List.{take_all}
use Rattle.std.specs.List.{join_with_byte}
use Rattle.replay_commands_on_core.specs.Commands.{argument_bytes}
use Rattle.replay_commands_on_core.specs.Moves.{behind_blanks, fen_argument}

joined : (word : List ℕ) (arguments : List (List ℕ)) → join_with_byte 32 (word ∷ arguments) ≡ word ++ behind_blanks arguments
joined word [] = sym (append-nil word)
joined word (next ∷ arguments) = ap (λ (text : List ℕ). word ++ 32 ∷ text) (joined next arguments)

pub fen_none : {Z : Type 0} (arguments : List (Vec ℕ Z)) → length arguments < 1 → fen_argument (argument_bytes arguments) ≡ []
fen_none [] l = refl
fen_none (word ∷ arguments) l = absurd (omega (arith, l))

fen_some : {Z : Type 0} (arguments : List (Vec ℕ Z)) (first : Vec ℕ Z) → 1 ≤ length arguments → first ≡ get_or arguments 0 first → fen_argument (argument_bytes arguments) ≡ vec_items first ++ behind_blanks (argument_bytes (drop 1 arguments))
fen_some [] first l e = absurd (omega (arith, l))
fen_some (word ∷ arguments) first l e = joined (vec_items word) (argument_bytes arguments) ∙ ap (λ v. vec_items v ++ behind_blanks (argument_bytes arguments)) (sym e)

pub all_rest : {Z : Type 0} (arguments : List (Vec ℕ Z)) → take (length arguments - 1) (drop 1 arguments) ≡ drop 1 arguments
all_rest [] = take_all (0 - 1) [] (omega arith)
all_rest (word ∷ arguments) = take_all (length (word ∷ arguments) - 1) arguments (omega arith)

pub fen_joined : {Z : Type 0} (arguments : List (Vec ℕ Z)) (first : Vec ℕ Z) (text whole : List ℕ) → 1 ≤ length arguments → first ≡ get_or arguments 0 first → text ≡ vec_items first
    → whole ≡ text ++ behind_blanks (argument_bytes (take (length arguments - 1) (drop 1 arguments))) → whole ≡ fen_argument (argument_bytes arguments)
fen_joined {Z} arguments first text whole l e t w =
    w ∙ ap (λ (rest : List (Vec ℕ Z)). text ++ behind_blanks (argument_bytes rest)) (all_rest arguments) ∙ ap (λ (prefix : List ℕ). prefix ++ behind_blanks (argument_bytes (drop 1 arguments))) t ∙ sym (fen_some arguments first l e)
