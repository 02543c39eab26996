-- The message that a line spells is read of it, and the faults are exact.
use Rattle.std.proofs.Common.{◌≡◌, ℕ, ◌<◌, ◌≤◌, List, [], ◌∷◌, true, false, leb, cond, length, Option, Some, None, Result, Ok, Err, refl, sym, ap, ◌∙◌, inl, inr, arith}
use Rattle.std.specs.Prelude.{codes, position}
use Rattle.std.specs.Option.{option_map, option_and_then, ok_or}
use Rattle.std.proofs.lemmas.Bool.Decides.{nat_tests}
use Rattle.chess_board.specs.declared.board.Move.{Move}
use Rattle.chess_board.specs.Text.{SpellsMove as MoveSpells}
use Rattle.protocol_tokens.specs.Tokens.{first_token, rest_after_token, trimmed, tokens}
use Rattle.protocol_tokens.specs.Numbers.{digits, number, centis, seconds}
use Rattle.cecp_lines.specs.declared.iface.IfaceFault.{IfaceFault}
use Rattle.cecp_lines.specs.declared.iface.IfaceFault.TheVariants.{UnknownCommand, BadArgument}
use Rattle.cecp_lines.specs.declared.words.Command.{Command}
use Rattle.cecp_lines.specs.declared.words.Command.TheVariants.{Ignored, Bare, With}
use Rattle.cecp_lines.specs.Messages as says
use Rattle.cecp_lines.specs.Messages.{IfaceMsg}
use Rattle.chess_board.specs.Spelling.{move_spelled_by}
use Rattle.cecp_lines.specs.Words.{iface_command_of, is_ignored}
use Rattle.cecp_lines.specs.Reading.{is_empty_text, only_token, version, base_time, level_of, is_equals, value_at, option_message_of, argument, move_or_unknown, other_line, command_line, message_or_fault, HasArgument, HasLevel, HasMove, HasSetting, IsMoveAlone, SpellsIfaceMsg, IsUnknown, IsBad, SpellsOneIfaceMessage}
use Rattle.chess_board.proofs.Spelled.{move_spells, spells_move}
use Rattle.cecp_lines.proofs.LineTokens.{heads, no_tokens, alone, two, tokens_word}
use Rattle.cecp_lines.proofs.Tables.{move_no_command, ignored_command}
use Rattle.cecp_lines.proofs.Spellings.{reading_spells}

not_both : (m : IfaceMsg) → ◌≡◌ {A = Result IfaceMsg IfaceFault} (Ok m) (Err UnknownCommand) → ⊥
not_both m h = absurd (cc)

not_read : (m : IfaceMsg) → ◌≡◌ {A = Result IfaceMsg IfaceFault} (Ok m) (Err BadArgument) → ⊥
not_read m h = absurd (cc)

two_faults : ◌≡◌ {A = Result IfaceMsg IfaceFault} (Err UnknownCommand) (Err BadArgument) → ⊥
two_faults h = absurd (cc)

some_first : (line : List ℕ) (c : ℕ) (cs : List ℕ) → first_token line ≡ c ∷ cs → first_token line ≡ [] → ⊥
some_first line c cs e h = absurd (cc)

begun : (line word : List ℕ) → first_token line ≡ word → message_or_fault line ≡ command_line (iface_command_of word) line
begun line word e = ap (λ w. command_line (iface_command_of w) line) e

read_argument : {A : Type 0} (f : A → IfaceMsg) (read : List ℕ → Option A) (line word : List ℕ) (x : A) → HasArgument line word read x → option_map f (option_and_then read (only_token (rest_after_token line))) ≡ Some (f x)
read_argument f read line word x h = let t = two line word h.0 h.1 in ap (λ o. option_map f (option_and_then read o)) t.1 ∙ ap (λ o. option_map f o) h.2

-- a command whose one argument is read
read_with : {A : Type 0} (f : A → IfaceMsg) (read : List ℕ → Option A) (line word : List ℕ) (x : A) → HasArgument line word read x → command_line (iface_command_of word) line ≡ ok_or (option_map f (option_and_then read (only_token (rest_after_token line)))) BadArgument → message_or_fault line ≡ Ok (f x)
read_with f read line word x h e = let t = two line word h.0 h.1 in begun line word t.0 ∙ e ∙ ap (λ o. ok_or o BadArgument) (read_argument f read line word x h)

moved_alone : (line t : List ℕ) (m : Move) → tokens line ≡ t ∷ [] → MoveSpells t m → message_or_fault line ≡ Ok (says.UserMove m)
moved_alone line [] m e h = absurd h
moved_alone line (c ∷ cs) m e h =
    let a = alone line (c ∷ cs) e in
    begun line (c ∷ cs) a.0
    ∙ ap (λ o. command_line o line) (move_no_command m (c ∷ cs) h)
    ∙ ap (λ w. other_line w (rest_after_token line)) a.0
    ∙ ap (λ more. other_line (c ∷ cs) more) a.1
    ∙ ap move_or_unknown (spells_move (c ∷ cs) m h)

read_moved : (line : List ℕ) (m : Move) → HasMove line m → message_or_fault line ≡ Ok (says.UserMove m)
read_moved line m (inl h) = read_with (λ x. says.UserMove x) move_spelled_by line (codes "usermove") m (h.0, h.1, spells_move h.0 m h.2) refl
read_moved line m (inr h) = moved_alone line h.0 m h.1 h.2

read_version : (line : List ℕ) (n : ℕ) → HasArgument line (codes "protover") number n → 2 ≤ n → message_or_fault line ≡ Ok (says.Protover n)
read_version line n h low =
    let t = two line (codes "protover") h.0 h.1 in
    let ge : leb 2 n ≡ true = grind (arith, nat_tests) in
    begun line (codes "protover") t.0
    ∙ ap (λ o. ok_or (option_and_then version (option_and_then number o)) BadArgument) t.1
    ∙ ap (λ o. ok_or (option_and_then version o) BadArgument) h.2
    ∙ ap (λ b. ok_or (cond b (Some (says.Protover n)) None) BadArgument) ge

read_level : (line : List ℕ) (mps base inc : ℕ) → HasLevel line mps base inc → message_or_fault line ≡ Ok (says.Level mps base inc)
read_level line mps base inc h =
    let one = heads line (codes "level") (h.0 ∷ h.1 ∷ h.2 ∷ []) h.3 in
    let next = heads (rest_after_token line) h.0 (h.1 ∷ h.2 ∷ []) one.after in
    let last = two (rest_after_token (rest_after_token line)) h.1 h.2 next.after in
    let a : digits 4 (first_token (rest_after_token line)) ≡ Some mps = ap (digits 4) next.first ∙ h.4 in
    let b : base_time (first_token (rest_after_token (rest_after_token line))) ≡ Some base = ap base_time last.0 ∙ h.5 in
    let c : option_and_then seconds (only_token (rest_after_token (rest_after_token (rest_after_token line)))) ≡ Some inc = ap (option_and_then seconds) last.1 ∙ h.6 in
    begun line (codes "level") one.first
    ∙ ap (λ o. ok_or (level_of o (base_time (first_token (rest_after_token (rest_after_token line)))) (option_and_then seconds (only_token (rest_after_token (rest_after_token (rest_after_token line)))))) BadArgument) a
    ∙ ap (λ o. ok_or (level_of (Some mps) o (option_and_then seconds (only_token (rest_after_token (rest_after_token (rest_after_token line)))))) BadArgument) b
    ∙ ap (λ o. ok_or (level_of (Some mps) (Some base) o) BadArgument) c

named : (name : List ℕ) (value : Option (List ℕ)) → 0 < length name → option_message_of name value ≡ Some (says.SetOption name value)
named [] value h = absurd (omega arith)
named (c ∷ cs) value h = refl

read_setting : (line name : List ℕ) (value : Option (List ℕ)) → first_token line ≡ codes "option" → HasSetting (rest_after_token line) name value → message_or_fault line ≡ Ok (says.SetOption name value)
read_setting line name value e h =
    begun line (codes "option") e
    ∙ ap (λ n. ok_or (option_message_of n (value_at (position is_equals (rest_after_token line)) (rest_after_token line))) BadArgument) (sym h.1)
    ∙ ap (λ v. ok_or (option_message_of name v) BadArgument) (sym h.2)
    ∙ ap (λ o. ok_or o BadArgument) (named name value h.0)

some_path : (kind path : List ℕ) → 0 < length path → cond (is_empty_text path) None (Some (says.EgtPath kind path)) ≡ Some (says.EgtPath kind path)
some_path kind [] h = absurd (omega arith)
some_path kind (c ∷ cs) h = refl

read_path : (line kind path : List ℕ) → first_token line ≡ codes "egtpath" → kind ≡ first_token (rest_after_token line) → path ≡ rest_after_token (rest_after_token line) → 0 < length path → message_or_fault line ≡ Ok (says.EgtPath kind path)
read_path line kind path e f g h =
    begun line (codes "egtpath") e
    ∙ ap (λ p. ok_or (cond (is_empty_text p) None (Some (says.EgtPath (first_token (rest_after_token line)) p))) BadArgument) (sym g)
    ∙ ap (λ k. ok_or (cond (is_empty_text path) None (Some (says.EgtPath k path))) BadArgument) (sym f)
    ∙ ap (λ o. ok_or o BadArgument) (some_path kind path h)

read_blank : (line : List ℕ) → tokens line ≡ [] → message_or_fault line ≡ Ok says.Blank
read_blank line h = let e = no_tokens line h in begun line [] e ∙ ap (λ w. other_line w (rest_after_token line)) e

read_ignored : (line text : List ℕ) → is_ignored (first_token line) ≡ true → text ≡ trimmed line → message_or_fault line ≡ Ok (says.Ignored text)
read_ignored line text h e = ap (λ o. command_line o line) (ignored_command (first_token line) h) ∙ ap (λ t. Ok (says.Ignored t)) (sym e)

read_board : (line text : List ℕ) → first_token line ≡ codes "setboard" → text ≡ rest_after_token line → message_or_fault line ≡ Ok (says.SetBoard text)
read_board line text e f = begun line (codes "setboard") e ∙ ap (λ t. Ok (says.SetBoard t)) (sym f)

pub spells_reading : (line : List ℕ) (m : IfaceMsg) → SpellsIfaceMsg line m → message_or_fault line ≡ Ok m
spells_reading line says.Blank h = read_blank line h
spells_reading line (says.Ignored text) h = read_ignored line text h.0 h.1
spells_reading line (says.Protover n) h = read_version line n h.0 h.1
spells_reading line (says.Ping n) h = read_with (λ x. says.Ping x) number line (codes "ping") n h refl
spells_reading line (says.UserMove m) h = read_moved line m h
spells_reading line (says.SetBoard text) h = read_board line text h.0 h.1
spells_reading line (says.Level mps base inc) h = read_level line mps base inc h
spells_reading line (says.St ms) h = read_with (λ x. says.St x) seconds line (codes "st") ms h refl
spells_reading line (says.Sd n) h = read_with (λ x. says.Sd x) number line (codes "sd") n h refl
spells_reading line (says.Time n) h = read_with (λ x. says.Time x) centis line (codes "time") n h refl
spells_reading line (says.Otim n) h = read_with (λ x. says.Otim x) centis line (codes "otim") n h refl
spells_reading line (says.SetOption name value) h = read_setting line name value h.0 h.1
spells_reading line (says.Memory n) h = read_with (λ x. says.Memory x) number line (codes "memory") n h refl
spells_reading line (says.Cores n) h = read_with (λ x. says.Cores x) number line (codes "cores") n h refl
spells_reading line (says.EgtPath kind path) h = read_path line kind path h.0 h.1 h.2 h.3
spells_reading line m h = begun line _ h

pub one_message : SpellsOneIfaceMessage
one_message line a b h k = let both : Ok a ≡ Ok b = sym (spells_reading line a h) ∙ spells_reading line b k in cc

-- FAULTS

bad_or : (o : Option IfaceMsg) → ok_or o BadArgument ≡ Err UnknownCommand → ⊥
bad_or None h = absurd (cc)
bad_or (Some m) h = absurd (cc)

unknown_other : (line w : List ℕ) → first_token line ≡ w → iface_command_of w ≡ None → other_line w (rest_after_token line) ≡ Err UnknownCommand → IsUnknown line
unknown_other line [] e f h = absurd (cc)
unknown_other line (c ∷ cs) e f h =
    (some_first line c cs e, ap iface_command_of e ∙ f, λ m a. not_both (says.UserMove m) (sym (spells_reading line (says.UserMove m) (inr a)) ∙ begun line (c ∷ cs) e ∙ ap (λ o. command_line o line) f ∙ ap (λ w. other_line w (rest_after_token line)) e ∙ h))

unknown_by : (line : List ℕ) (c : Option Command) → iface_command_of (first_token line) ≡ c → command_line c line ≡ Err UnknownCommand → IsUnknown line
unknown_by line None e h = unknown_other line (first_token line) refl e h
unknown_by line (Some Ignored) e h = absurd (cc)
unknown_by line (Some (Bare word)) e h = absurd (cc)
unknown_by line (Some (With verb)) e h = absurd (bad_or (argument verb (rest_after_token line)) h)

pub reading_unknown : (line : List ℕ) → message_or_fault line ≡ Err UnknownCommand → IsUnknown line
reading_unknown line h = unknown_by line (iface_command_of (first_token line)) refl h

unknown_move : (line w : List ℕ) (o : Option Move) → is_empty_text w ≡ false → first_token line ≡ w → rest_after_token line ≡ [] → move_spelled_by w ≡ o → ((m : Move) → IsMoveAlone line m → ⊥) → move_or_unknown o ≡ Err UnknownCommand
unknown_move line w None some e f g k = refl
unknown_move line w (Some m) some e f g k = absurd (k m (w, tokens_word line w some e ∙ ap (λ r. w ∷ tokens r) f, move_spells w m g))

unknown_more : (line w more : List ℕ) → is_empty_text w ≡ false → first_token line ≡ w → rest_after_token line ≡ more → ((m : Move) → IsMoveAlone line m → ⊥) → cond (is_empty_text more) (move_or_unknown (move_spelled_by w)) (Err UnknownCommand) ≡ Err UnknownCommand
unknown_more line w [] some e f k = unknown_move line w (move_spelled_by w) some e f refl k
unknown_more line w (c ∷ cs) some e f k = refl

unknown_word : (line w : List ℕ) → first_token line ≡ w → (w ≡ [] → ⊥) → ((m : Move) → IsMoveAlone line m → ⊥) → other_line w (rest_after_token line) ≡ Err UnknownCommand
unknown_word line [] e some k = absurd (some refl)
unknown_word line (c ∷ cs) e some k = unknown_more line (c ∷ cs) (rest_after_token line) refl e refl k

pub unknown_reading : (line : List ℕ) → IsUnknown line → message_or_fault line ≡ Err UnknownCommand
unknown_reading line h = ap (λ o. command_line o line) h.1 ∙ unknown_word line (first_token line) refl h.0 h.2

pub reading_bad : (line : List ℕ) → message_or_fault line ≡ Err BadArgument → IsBad line
reading_bad line h = (λ m s. not_read m (sym (spells_reading line m s) ∙ h), λ u. two_faults (sym (unknown_reading line u) ∙ h))

bad_by : (line : List ℕ) (r : Result IfaceMsg IfaceFault) → message_or_fault line ≡ r → IsBad line → r ≡ Err BadArgument
bad_by line (Ok m) e h = absurd (h.0 m (reading_spells line m e))
bad_by line (Err UnknownCommand) e h = absurd (h.1 (reading_unknown line e))
bad_by line (Err BadArgument) e h = refl

pub bad_reading : (line : List ℕ) → IsBad line → message_or_fault line ≡ Err BadArgument
bad_reading line h = bad_by line (message_or_fault line) refl h
