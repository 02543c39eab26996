-- The entries found in the table of command words.
use Rattle.std.proofs.Common.{◌≡◌, ℕ, ◌+◌, ◌<◌, ◌≤◌, List, [], ◌∷◌, ◌++◌, map, Bool, true, false, ◌||◌, cond, Option, Some, None, drop, refl, sym, subst, arith}
use Rattle.std.specs.Prelude.{codes}
use Rattle.std.specs.Str.{bytes_eq}
use Rattle.std.specs.Map.{lookup}
use Rattle.std.specs.List.{AllByRecursion, list_any}
use Rattle.std.proofs.lemmas.Slice.Eq.{bytes_eq-Decides}
use Rattle.chess_board.specs.declared.board.Move.{Move}
use Rattle.chess_board.specs.Board.{rank_of_square}
use Rattle.chess_board.specs.Text.{SpellsMove as MoveSpells}
use Rattle.protocol_tokens.specs.Tokens.{first_token}
use Rattle.cecp_lines.specs.declared.words.Command.{Command}
use Rattle.cecp_lines.specs.declared.words.Command.TheVariants.{Ignored, Bare, With}
use Rattle.cecp_lines.specs.declared.words.Verb.{Verb}
use Rattle.cecp_lines.specs.declared.words.Verb.TheVariants as verbs
use Rattle.cecp_lines.specs.Words.{commands, iface_command_of, is_ignored, ignored_words}
use Rattle.cecp_lines.specs.Reading.{SpellsIfaceMsg, bare_message}

looked_by : (P : List ℕ → Command → Type 0) (w a : List ℕ) (x c : Command) (b : Bool) (others : Option Command) → bytes_eq w a ≡ b → P a x → (others ≡ Some c → P w c) → cond b (Some x) others ≡ Some c → P w c
looked_by P w a x c true others e p k h =
    let same : w ≡ a = (bytes_eq-Decides w a).0 e in
    let what : x ≡ c = cc in
    subst (λ (y : Command). P w y) what (subst (λ (u : List ℕ). P u x) (sym same) p)
looked_by P w a x c false others e p k h = k h

-- a fact of each row is a fact of the one that is found
pub looked_up : (P : List ℕ → Command → Type 0) (rows : List (List ℕ × Command)) → AllByRecursion (λ row. P row.0 row.1) rows → (w : List ℕ) (c : Command) → lookup (bytes_eq w) rows ≡ Some c → P w c
looked_up P [] all w c h = absurd (cc)
looked_up P (row ∷ rows) all w c h = looked_by P w row.0 row.1 c (bytes_eq w row.0) (lookup (bytes_eq w) rows) refl all.0 (looked_up P rows all.1 w c) h

-- the word of each command with arguments
abbrev pub verb_text : Verb → List ℕ
verb_text verbs.Protover = codes "protover"
verb_text verbs.Ping = codes "ping"
verb_text verbs.UserMove = codes "usermove"
verb_text verbs.SetBoard = codes "setboard"
verb_text verbs.Level = codes "level"
verb_text verbs.St = codes "st"
verb_text verbs.Sd = codes "sd"
verb_text verbs.Time = codes "time"
verb_text verbs.Otim = codes "otim"
verb_text verbs.SetOption = codes "option"
verb_text verbs.Memory = codes "memory"
verb_text verbs.Cores = codes "cores"
verb_text verbs.EgtPath = codes "egtpath"

-- the row of a word that was found
abbrev pub Means : List ℕ → Command → Type 0
Means w Ignored = is_ignored w ≡ true
Means w (Bare word) = (line : List ℕ) → first_token line ≡ w → SpellsIfaceMsg line (bare_message word)
Means w (With verb) = w ≡ verb_text verb

pub found_means : (w : List ℕ) (c : Command) → iface_command_of w ≡ Some c → Means w c
found_means w c h = looked_up Means commands (refl, (refl, (refl, (refl, (refl, (refl, (refl, (refl, (refl, (λ line e. e, (λ line e. e, (λ line e. e, (λ line e. e, (λ line e. e, (λ line e. e, (λ line e. e, (λ line e. e, (λ line e. e, (λ line e. e, (λ line e. e, (λ line e. e, (λ line e. e, (λ line e. e, (λ line e. e, (λ line e. e, (λ line e. e, (λ line e. e, (refl, (refl, (refl, (refl, (refl, (refl, (refl, (refl, (refl, (refl, (refl, (refl, (refl, tt)))))))))))))))))))))))))))))))))))))))) w c h

-- no command word is a move text
no_rank : (r s : ℕ) → s < 64 → 57 ≤ r → r ≡ 49 + rank_of_square s → ⊥
no_rank r s a b e = omega arith

no_word_moves : (m : Move) (w : List ℕ) (c : Command) → iface_command_of w ≡ Some c → MoveSpells w m → ⊥
no_word_moves m w c h = looked_up (λ u k. MoveSpells u m → ⊥) commands (λ h. h, (λ h. h, (λ h. h, (λ h. h, (λ h. h, (λ h. no_rank 97 m.from.index m.from.on_board (omega arith) h.0.1, (λ h. h, (λ h. h, (λ h. h, (λ h. h, (λ h. no_rank 117 m.from.index m.from.on_board (omega arith) h.0.1, (λ h. no_rank 111 m.from.index m.from.on_board (omega arith) h.0.1, (λ h. h, (λ h. h, (λ h. h, (λ h. no_rank 114 m.from.index m.from.on_board (omega arith) h.0.1, (λ h. no_rank 105 m.from.index m.from.on_board (omega arith) h.0.1, (λ h. no_rank 110 m.from.index m.from.on_board (omega arith) h.0.1, (λ h. h, (λ h. no_rank 97 m.from.index m.from.on_board (omega arith) h.0.1, (λ h. no_rank 97 m.from.index m.from.on_board (omega arith) h.0.1, (λ h. no_rank 111 m.from.index m.from.on_board (omega arith) h.0.1, (λ h. h, (λ h. h, (λ h. no_rank 120 m.from.index m.from.on_board (omega arith) h.0.1, (λ h. h, (λ h. h, (λ h. h, (λ h. no_rank 105 m.from.index m.from.on_board (omega arith) h.0.1, (λ h. h, (λ h. h, (λ h. no_rank 101 m.from.index m.from.on_board (omega arith) h.0.1, (λ h. h, (λ h. h, (λ h. no_rank 105 m.from.index m.from.on_board (omega arith) h.0.1, (λ h. no_rank 116 m.from.index m.from.on_board (omega arith) h.0.1, (λ h. h, (λ h. h, (λ h. no_rank 111 m.from.index m.from.on_board (omega arith) h.0.1, (λ h. h, tt)))))))))))))))))))))))))))))))))))))))) w c h

unfound : (m : Move) (w : List ℕ) (o : Option Command) → iface_command_of w ≡ o → MoveSpells w m → iface_command_of w ≡ None
unfound m w None e h = e
unfound m w (Some c) e h = absurd (no_word_moves m w c e h)

pub move_no_command : (m : Move) (w : List ℕ) → MoveSpells w m → iface_command_of w ≡ None
move_no_command m w h = unfound m w (iface_command_of w) refl h

-- a word of the ignored ones is found as such, whatever rows follow them
ignored_by : (w a : List ℕ) (b more : Bool) (others : Option Command) → (more ≡ true → others ≡ Some Ignored) → (b || more) ≡ true → cond b (Some Ignored) others ≡ Some Ignored
ignored_by w a true more others k h = refl
ignored_by w a false more others k h = k h

ignored_found : (w : List ℕ) (words : List (List ℕ)) (rows : List (List ℕ × Command)) → list_any (bytes_eq w) words ≡ true → lookup (bytes_eq w) (map (λ u. (u, Ignored)) words ++ rows) ≡ Some Ignored
ignored_found w [] rows h = absurd (cc)
ignored_found w (a ∷ words) rows h = ignored_by w a (bytes_eq w a) (list_any (bytes_eq w) words) (lookup (bytes_eq w) (map (λ u. (u, Ignored)) words ++ rows)) (ignored_found w words rows) h

pub ignored_command : (w : List ℕ) → is_ignored w ≡ true → iface_command_of w ≡ Some Ignored
ignored_command w h = ignored_found w ignored_words (drop 9 commands) h
