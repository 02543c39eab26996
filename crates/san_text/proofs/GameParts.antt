-- The parts of the line of a game.
use Rattle.std.proofs.Common.{◌≡◌, ℕ, ◌≤◌, List, [], ◌∷◌, ◌++◌, Bool, cond, decimal, length, refl, sym, ap, ◌∙◌, arith, lit<, append_assoc}
use Rattle.std.specs.Bool.{Decides}
use Rattle.std.specs.Prelude.{codes}
use Rattle.std.proofs.lemmas.Fmt.{length-decimal-le}
use Rattle.line_io.specs.Out.{Text, with}
use Rattle.line_io.proofs.Puts.{put_three}
use Rattle.std.specs.List.{join_with_byte}
use Rattle.chess_board.specs.Position.{Position}
use Rattle.chess_board.specs.Play.{start_position}
use Rattle.fen_text.specs.Written.{position_fen}
use Rattle.game_record.specs.Game.{Ply, position_after_ply}
use Rattle.game_record.proofs.Lines.{standard_test}
use Rattle.san_text.specs.GameSan.{san_of_ply}
use Rattle.san_text.specs.GameText.{move_number_by, move_parts, spaced_parts, tag_of}

pub spaced-append : (a b : List (List ℕ)) → spaced_parts (a ++ b) ≡ spaced_parts a ++ spaced_parts b
spaced-append [] b = refl
spaced-append (part ∷ a) b =
    ap (λ (t : List ℕ). part ++ 32 ∷ t) (spaced-append a b)
    ∙ sym (append_assoc part (32 ∷ spaced_parts a) (spaced_parts b))

-- parts with a blank after each, and the last part
pub joined : (parts : List (List ℕ)) (last : List ℕ) → join_with_byte 32 (parts ++ last ∷ []) ≡ spaced_parts parts ++ last
joined [] last = refl
joined (part ∷ []) last = sym (append_assoc part (32 ∷ []) last)
joined (part ∷ next ∷ parts) last =
    ap (λ (t : List ℕ). part ++ 32 ∷ t) (joined (next ∷ parts) last)
    ∙ sym (append_assoc part (32 ∷ spaced_parts (next ∷ parts)) last)

-- a move after its number, and the moves after it
pub one_more : (p : Position) (m : Ply) (moves : List Ply)
    → spaced_parts (move_parts p (m ∷ moves)) ≡ spaced_parts (move_number_by p.side p.full ++ san_of_ply p m ∷ []) ++ spaced_parts (move_parts (position_after_ply p m) moves)
one_more p m moves =
    ap spaced_parts (sym (append_assoc (move_number_by p.side p.full) (san_of_ply p m ∷ []) (move_parts (position_after_ply p m) moves)))
    ∙ spaced-append (move_number_by p.side p.full ++ san_of_ply p m ∷ []) (move_parts (position_after_ply p m) moves)

pub length-number : (n : ℕ) → n ≤ 99999 → length (decimal n) ≤ 5
length-number n h = length-decimal-le 5 n (lit< tt) (omega arith) (omega arith)

-- a buffer after five pieces
pub put_five : (o p q r s t : Text) (a b c d e : List ℕ)
    → p ≡ with o a → q ≡ with p b → r ≡ with q c → s ≡ with r d → t ≡ with s e
    → t ≡ with o (a ++ (b ++ (c ++ (d ++ e))))
put_five o p q r s t a b c d e pa qb rc sd te =
    put_three o p q t a b (c ++ (d ++ e)) pa qb (put_three q r s t c d e rc sd te)

-- the text of a game, part by part
pub whole_text : (tag : List ℕ) (beginning moves : List (List ℕ)) (result : List ℕ)
    → tag ++ (join_with_byte 32 (beginning ++ (moves ++ result ∷ [])) ++ 10 ∷ [])
    ≡ tag ++ (spaced_parts beginning ++ (spaced_parts moves ++ (result ++ 10 ∷ [])))
whole_text tag beginning moves result =
    let parts : join_with_byte 32 (beginning ++ (moves ++ result ∷ [])) ≡ (spaced_parts beginning ++ spaced_parts moves) ++ result =
    ap (join_with_byte 32) (sym (append_assoc beginning moves (result ∷ [])))
    ∙ joined (beginning ++ moves) result ∙ ap (λ (t : List ℕ). t ++ result) (spaced-append beginning moves) in
    let line : ((spaced_parts beginning ++ spaced_parts moves) ++ result) ++ 10 ∷ [] ≡ spaced_parts beginning ++ (spaced_parts moves ++ (result ++ 10 ∷ [])) =
    append_assoc (spaced_parts beginning ++ spaced_parts moves) result (10 ∷ [])
    ∙ append_assoc (spaced_parts beginning) (spaced_parts moves) (result ++ 10 ∷ []) in
    ap (λ (t : List ℕ). tag ++ (t ++ 10 ∷ [])) parts ∙ ap (λ (t : List ℕ). tag ++ t) line

-- the tag, by a test for the standard start
pub tag_by : (b c : Bool) (p : Position) → Decides b (p ≡ start_position) → b ≡ c → tag_of p ≡ cond c [] (codes "[FEN \"" ++ (position_fen p ++ codes "\"]\n"))
tag_by b c p d e = ap (λ (v : Bool). cond v [] (codes "[FEN \"" ++ (position_fen p ++ codes "\"]\n"))) (standard_test b p d ∙ e)
