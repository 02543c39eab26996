-- The message read of a line is spelled by it, and the message that a line spells is read of it.
use Rattle.std.proofs.Common.{◌≡◌, ℕ, ◌<◌, ◌≤◌, List, [], ◌∷◌, false, leb, cond, length, Option, Some, None, Ok, Err, refl, ap, ◌∙◌, subst, inl, inr, arith}
use Rattle.std.specs.Prelude.{codes, position}
use Rattle.std.specs.Option.{option_map, option_and_then, ok_or}
use Rattle.std.proofs.lemmas.Bool.Decides.{nat_tests}
use Rattle.std.proofs.lemmas.Option.{cond_some}
use Rattle.chess_board.specs.declared.board.Move.{Move}
use Rattle.protocol_tokens.specs.Tokens.{first_token, rest_after_token, trimmed, tokens}
use Rattle.protocol_tokens.specs.Numbers.{digits, number, centis, seconds}
use Rattle.protocol_tokens.proofs.TokenLists.{tokens_none}
use Rattle.cecp_lines.specs.declared.iface.IfaceFault.TheVariants.{UnknownCommand, BadArgument}
use Rattle.cecp_lines.specs.declared.words.Command.{Command}
use Rattle.cecp_lines.specs.declared.words.Command.TheVariants.{Ignored, Bare, With}
use Rattle.cecp_lines.specs.declared.words.Verb.{Verb}
use Rattle.cecp_lines.specs.declared.words.Verb.TheVariants as verbs
use Rattle.cecp_lines.specs.Messages as says
use Rattle.cecp_lines.specs.Messages.{IfaceMsg}
use Rattle.chess_board.specs.Spelling.{move_spelled_by}
use Rattle.cecp_lines.specs.Words.{iface_command_of}
use Rattle.cecp_lines.specs.Reading.{is_empty_text, only_token, version, protover, base_time, level, level_of, is_equals, name_at, value_at, option_message_of, bare_message, argument, move_or_unknown, other_line, command_line, message_or_fault, HasArgument, HasLevel, SpellsIfaceMsg}
use Rattle.chess_board.proofs.Spelled.{move_spells}
use Rattle.cecp_lines.proofs.LineTokens.{tokens_word, one_token}
use Rattle.cecp_lines.proofs.Tables.{verb_text, found_means}

-- OPTIONS

pub bind_some : {A B : Type 0} (f : A → Option B) (o : Option A) (y : B) → option_and_then f o ≡ Some y → (x : A) × (o ≡ Some x) × (f x ≡ Some y)
bind_some f None y h = absurd (cc)
bind_some f (Some x) y h = (x, refl, h)

map_some : {A : Type 0} (f : A → IfaceMsg) (o : Option A) (m : IfaceMsg) → option_map f o ≡ Some m → (x : A) × (o ≡ Some x) × (f x ≡ m)
map_some f None m h = absurd (cc)
map_some f (Some x) m h = (x, refl, cc)

ok_some : (o : Option IfaceMsg) (m : IfaceMsg) → ok_or o BadArgument ≡ Ok m → o ≡ Some m
ok_some None m h = absurd (cc)
ok_some (Some x) m h = let e : x ≡ m = cc in ap Some e

-- a text that reads as something is not empty
not_empty : {A : Type 0} (read : List ℕ → Option A) (t : List ℕ) (x : A) → read [] ≡ None → read t ≡ Some x → is_empty_text t ≡ false
not_empty read [] x none h = absurd (cc)
not_empty read (c ∷ cs) x none h = refl

-- FROM THE READING TO THE RELATION

has_argument : {A : Type 0} (read : List ℕ → Option A) (line word : List ℕ) (x : A) → is_empty_text word ≡ false → read [] ≡ None → first_token line ≡ word → option_and_then read (only_token (rest_after_token line)) ≡ Some x → HasArgument line word read x
has_argument read line word x some none e h =
    let b = bind_some read (only_token (rest_after_token line)) x h in
    (b.0, tokens_word line word some e ∙ ap (λ ts. word ∷ ts) (one_token (rest_after_token line) b.0 (not_empty read b.0 x none b.2) b.1), b.2)

-- the same for a message
takes : {A : Type 0} (f : A → IfaceMsg) (read : List ℕ → Option A) (line word : List ℕ) (m : IfaceMsg) → ((x : A) → HasArgument line word read x → SpellsIfaceMsg line (f x)) → is_empty_text word ≡ false → read [] ≡ None → first_token line ≡ word → option_map f (option_and_then read (only_token (rest_after_token line))) ≡ Some m → SpellsIfaceMsg line m
takes f read line word m k some none e h =
    let b = map_some f (option_and_then read (only_token (rest_after_token line))) m h in
    subst (λ (n : IfaceMsg). SpellsIfaceMsg line n) b.2 (k b.0 (has_argument read line word b.0 some none e b.1))

no_move : move_spelled_by [] ≡ None
unfolding move_spelled_by
no_move = refl

takes_move : (line : List ℕ) (m : IfaceMsg) → first_token line ≡ codes "usermove" → option_map (λ x. says.UserMove x) (option_and_then move_spelled_by (only_token (rest_after_token line))) ≡ Some m → SpellsIfaceMsg line m
takes_move line m e h =
    let b = map_some (λ x. says.UserMove x) (option_and_then move_spelled_by (only_token (rest_after_token line))) m h in
    let a = has_argument move_spelled_by line (codes "usermove") b.0 refl no_move e b.1 in
    subst (λ (n : IfaceMsg). SpellsIfaceMsg line n) b.2 (inl (a.0, a.1, move_spells a.0 b.0 a.2))

takes_version : (line : List ℕ) (m : IfaceMsg) → first_token line ≡ codes "protover" → protover (rest_after_token line) ≡ Some m → SpellsIfaceMsg line m
takes_version line m e h =
    let b = bind_some version (option_and_then number (only_token (rest_after_token line))) m h in
    let a = has_argument number line (codes "protover") b.0 refl refl e b.1 in
    let v = cond_some (leb 2 b.0) (says.Protover b.0) m b.2 in
    let two : 2 ≤ b.0 = grind (arith, nat_tests, v.0) in
    subst (λ (n : IfaceMsg). SpellsIfaceMsg line n) v.1 (a, two)

level_parts : (line : List ℕ) (a b c : Option ℕ) (m : IfaceMsg) → ((x y z : ℕ) → a ≡ Some x → b ≡ Some y → c ≡ Some z → SpellsIfaceMsg line (says.Level x y z)) → level_of a b c ≡ Some m → SpellsIfaceMsg line m
level_parts line (Some x) (Some y) (Some z) m k h = let e : says.Level x y z ≡ m = cc in subst (λ (n : IfaceMsg). SpellsIfaceMsg line n) e (k x y z refl refl refl)
level_parts line (Some x) (Some y) None m k h = absurd (cc)
level_parts line (Some x) None c m k h = absurd (cc)
level_parts line None b c m k h = absurd (cc)

has_level : (line : List ℕ) (x y z : ℕ) → first_token line ≡ codes "level" → digits 4 (first_token (rest_after_token line)) ≡ Some x → base_time (first_token (rest_after_token (rest_after_token line))) ≡ Some y → option_and_then seconds (only_token (rest_after_token (rest_after_token (rest_after_token line)))) ≡ Some z → HasLevel line x y z
has_level line x y z e a b c =
    let last = bind_some seconds (only_token (rest_after_token (rest_after_token (rest_after_token line)))) z c in
    let one = tokens_word line (codes "level") refl e in
    let two = tokens_word (rest_after_token line) (first_token (rest_after_token line)) (not_empty (digits 4) (first_token (rest_after_token line)) x refl a) refl in
    let three = tokens_word (rest_after_token (rest_after_token line)) (first_token (rest_after_token (rest_after_token line))) (not_empty base_time (first_token (rest_after_token (rest_after_token line))) y refl b) refl in
    let four = one_token (rest_after_token (rest_after_token (rest_after_token line))) last.0 (not_empty seconds last.0 z refl last.2) last.1 in
    (first_token (rest_after_token line), first_token (rest_after_token (rest_after_token line)), last.0, one ∙ ap (λ ts. codes "level" ∷ ts) (two ∙ ap (λ ts. first_token (rest_after_token line) ∷ ts) (three ∙ ap (λ ts. first_token (rest_after_token (rest_after_token line)) ∷ ts) four)), a, b, last.2)

takes_level : (line : List ℕ) (m : IfaceMsg) → first_token line ≡ codes "level" → level (rest_after_token line) ≡ Some m → SpellsIfaceMsg line m
takes_level line m e h = level_parts line (digits 4 (first_token (rest_after_token line))) (base_time (first_token (rest_after_token (rest_after_token line)))) (option_and_then seconds (only_token (rest_after_token (rest_after_token (rest_after_token line))))) m (λ x y z a b c. has_level line x y z e a b c) h

takes_setting : (line name : List ℕ) (value : Option (List ℕ)) (m : IfaceMsg) → first_token line ≡ codes "option" → name ≡ name_at (position is_equals (rest_after_token line)) (rest_after_token line) → value ≡ value_at (position is_equals (rest_after_token line)) (rest_after_token line) → option_message_of name value ≡ Some m → SpellsIfaceMsg line m
takes_setting line [] value m e f g h = absurd (cc)
takes_setting line (c ∷ cs) value m e f g h =
    let same : says.SetOption (c ∷ cs) value ≡ m = cc in
    let some : 0 < length (c ∷ cs) = omega arith in
    subst (λ (n : IfaceMsg). SpellsIfaceMsg line n) same (e, (some, f, g))

takes_path : (line path : List ℕ) (m : IfaceMsg) → first_token line ≡ codes "egtpath" → path ≡ rest_after_token (rest_after_token line) → cond (is_empty_text path) None (Some (says.EgtPath (first_token (rest_after_token line)) path)) ≡ Some m → SpellsIfaceMsg line m
takes_path line [] m e f h = absurd (cc)
takes_path line (c ∷ cs) m e f h =
    let same : says.EgtPath (first_token (rest_after_token line)) (c ∷ cs) ≡ m = cc in
    let some : 0 < length (c ∷ cs) = omega arith in
    subst (λ (n : IfaceMsg). SpellsIfaceMsg line n) same (e, refl, f, some)

takes_board : (line : List ℕ) (m : IfaceMsg) → first_token line ≡ codes "setboard" → Some (says.SetBoard (rest_after_token line)) ≡ Some m → SpellsIfaceMsg line m
takes_board line m e h = let same : says.SetBoard (rest_after_token line) ≡ m = cc in subst (λ (n : IfaceMsg). SpellsIfaceMsg line n) same (e, refl)

argument_spells : (verb : Verb) (line : List ℕ) (m : IfaceMsg) → first_token line ≡ verb_text verb → argument verb (rest_after_token line) ≡ Some m → SpellsIfaceMsg line m
argument_spells verbs.Protover line m e h = takes_version line m e h
argument_spells verbs.Ping line m e h = takes (λ n. says.Ping n) number line (codes "ping") m (λ x a. a) refl refl e h
argument_spells verbs.UserMove line m e h = takes_move line m e h
argument_spells verbs.SetBoard line m e h = takes_board line m e h
argument_spells verbs.Level line m e h = takes_level line m e h
argument_spells verbs.St line m e h = takes (λ n. says.St n) seconds line (codes "st") m (λ x a. a) refl refl e h
argument_spells verbs.Sd line m e h = takes (λ n. says.Sd n) number line (codes "sd") m (λ x a. a) refl refl e h
argument_spells verbs.Time line m e h = takes (λ n. says.Time n) centis line (codes "time") m (λ x a. a) refl refl e h
argument_spells verbs.Otim line m e h = takes (λ n. says.Otim n) centis line (codes "otim") m (λ x a. a) refl refl e h
argument_spells verbs.SetOption line m e h = takes_setting line (name_at (position is_equals (rest_after_token line)) (rest_after_token line)) (value_at (position is_equals (rest_after_token line)) (rest_after_token line)) m e refl refl h
argument_spells verbs.Memory line m e h = takes (λ n. says.Memory n) number line (codes "memory") m (λ x a. a) refl refl e h
argument_spells verbs.Cores line m e h = takes (λ n. says.Cores n) number line (codes "cores") m (λ x a. a) refl refl e h
argument_spells verbs.EgtPath line m e h = takes_path line (rest_after_token (rest_after_token line)) m e refl h

move_line : (line w : List ℕ) (o : Option Move) (m : IfaceMsg) → first_token line ≡ w → is_empty_text w ≡ false → rest_after_token line ≡ [] → move_spelled_by w ≡ o → move_or_unknown o ≡ Ok m → SpellsIfaceMsg line m
move_line line w None m e some none f h = absurd (cc)
move_line line w (Some x) m e some none f h =
    let same : says.UserMove x ≡ m = cc in
    subst (λ (n : IfaceMsg). SpellsIfaceMsg line n) same (inr (w, tokens_word line w some e ∙ ap (λ r. w ∷ tokens r) none, move_spells w x f))

other_more : (line w more : List ℕ) (m : IfaceMsg) → first_token line ≡ w → is_empty_text w ≡ false → rest_after_token line ≡ more → cond (is_empty_text more) (move_or_unknown (move_spelled_by w)) (Err UnknownCommand) ≡ Ok m → SpellsIfaceMsg line m
other_more line w [] m e some f h = move_line line w (move_spelled_by w) m e some f refl h
other_more line w (c ∷ cs) m e some f h = absurd (cc)

other_spells : (line w : List ℕ) (m : IfaceMsg) → first_token line ≡ w → other_line w (rest_after_token line) ≡ Ok m → SpellsIfaceMsg line m
other_spells line [] m e h = let same : says.Blank ≡ m = cc in subst (λ (n : IfaceMsg). SpellsIfaceMsg line n) same (tokens_none line e)
other_spells line (c ∷ cs) m e h = other_more line (c ∷ cs) (rest_after_token line) m e refl refl h

command_spells : (line : List ℕ) (c : Option Command) (m : IfaceMsg) → iface_command_of (first_token line) ≡ c → command_line c line ≡ Ok m → SpellsIfaceMsg line m
command_spells line None m e h = other_spells line (first_token line) m refl h
command_spells line (Some Ignored) m e h =
    let same : says.Ignored (trimmed line) ≡ m = cc in
    subst (λ (n : IfaceMsg). SpellsIfaceMsg line n) same (found_means (first_token line) Ignored e, refl)
command_spells line (Some (Bare word)) m e h =
    let same : bare_message word ≡ m = cc in
    subst (λ (n : IfaceMsg). SpellsIfaceMsg line n) same (found_means (first_token line) (Bare word) e line refl)
command_spells line (Some (With verb)) m e h = argument_spells verb line m (found_means (first_token line) (With verb) e) (ok_some (argument verb (rest_after_token line)) m h)

pub reading_spells : (line : List ℕ) (m : IfaceMsg) → message_or_fault line ≡ Ok m → SpellsIfaceMsg line m
reading_spells line m h = command_spells line (iface_command_of (first_token line)) m refl h
