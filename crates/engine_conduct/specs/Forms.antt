-- The form of an engine's lines (UCI, April 2006, "Engine to GUI").
use Rattle.std.specs.Prelude.{ℕ, List, [], ◌∷◌, length, codes, Bool, true, false, not, ◌&&◌, ◌||◌}
use Rattle.std.specs.Prelude.{◌==◌, if◌then◌else◌, is_some, Option, Some, None}
use Rattle.protocol_tokens.specs.Bytes.{dash, plus}
use Rattle.protocol_tokens.specs.Tokens.{tokens, rest_after_token}
use Rattle.uci_lines.specs.Cuts.{is_word}
use Rattle.uci_lines.specs.Engine.{engine_message}
use Rattle.uci_lines.specs.Messages.{EngineMsg, OptionLine}
use Rattle.engine_conduct.specs.declared.words.EngineWord.{EngineWord}
use Rattle.engine_conduct.specs.declared.words.EngineWord.TheVariants as engines
use Rattle.engine_conduct.specs.declared.words.InfoWord.{InfoWord}
use Rattle.engine_conduct.specs.declared.words.InfoWord.TheVariants as infos
use Rattle.engine_conduct.specs.Words.{info_word, spells_move, is_null_move, is_number}

-- digits, perhaps behind a sign
abbrev pub is_signed_number : List ℕ → Bool
is_signed_number [] = false
is_signed_number (b ∷ bs) = if b == plus || b == dash then is_number bs else is_number (b ∷ bs)

-- "depth <x>"
abbrev pub begins_number : List (List ℕ) → Bool
begins_number [] = false
begins_number (t ∷ ts) = is_number t

abbrev pub begins_value : List (List ℕ) → Bool
begins_value [] = false
begins_value (t ∷ ts) = is_signed_number t

-- "score": "cp <x>", "mate <y>", "lowerbound", "upperbound"
abbrev pub begins_score : List (List ℕ) → Bool
begins_score [] = false
begins_score (unit ∷ ts) =
    if is_word (codes "cp") unit || is_word (codes "mate") unit then begins_value ts
    else is_word (codes "lowerbound") unit || is_word (codes "upperbound") unit

-- "currmove <move>", in long algebraic notation
abbrev pub begins_move : List (List ℕ) → Bool
begins_move [] = false
begins_move (t ∷ ts) = spells_move t || is_null_move t

-- "pv <move1> ... <movei>", which may be empty
abbrev pub begins_line : List (List ℕ) → Bool
begins_line [] = true
begins_line (t ∷ ts) = spells_move t || is_null_move t || is_some (info_word t)

-- "currline <cpunr> <move1> ... <movei>": the number is left out "if there is just one cpu"
abbrev pub behind_number : List (List ℕ) → List (List ℕ)
behind_number [] = []
behind_number (t ∷ ts) = if is_number t && not (is_null_move t) then ts else t ∷ ts

-- what must stand behind a word of `info`
abbrev pub is_followed : InfoWord → List (List ℕ) → Bool
is_followed infos.Depth ts = begins_number ts
is_followed infos.Count ts = begins_number ts
is_followed infos.Score ts = begins_score ts
is_followed infos.CurrMove ts = begins_move ts
is_followed infos.Pv ts = begins_line ts
is_followed infos.Refutation ts = begins_line ts
is_followed infos.CurrLine ts = begins_line (behind_number ts)
is_followed word ts = true

abbrev pub is_told : Option InfoWord → List (List ℕ) → Bool
is_told None ts = true
is_told (Some word) ts = is_followed word ts

-- `string`, behind which "the rest of the line" is a text
abbrev pub is_text_word : Option InfoWord → Bool
is_text_word (Some infos.Text) = true
is_text_word word = false

-- each word before the first `string` has what must stand behind it
abbrev pub all_followed : List (List ℕ) → Bool
all_followed [] = true
all_followed (t ∷ ts) =
    if is_text_word (info_word t) then true
    else (if not (is_told (info_word t) ts) then false else all_followed ts)

-- a word is among the tokens before the first `string`
abbrev pub tells : List ℕ → List (List ℕ) → Bool
tells word [] = false
tells word (t ∷ ts) =
    if is_text_word (info_word t) then false else (if is_word word t then true else tells word ts)

-- `seldepth`: "if the engine sends seldepth there must also be a depth present in the same string"
abbrev pub breaks_info_form : List (List ℕ) → Bool
breaks_info_form ts = not (all_followed ts) || (tells (codes "seldepth") ts && not (tells (codes "depth") ts))

-- "id": "name <x>", "author <x>"
abbrev pub is_id : List (List ℕ) → Bool
is_id [] = false
is_id (t ∷ ts) = is_word (codes "name") t || is_word (codes "author") t

-- an option of one of the five types, with a name
abbrev pub is_declaration : EngineMsg → Bool
is_declaration (OptionLine name kind) = not (length name == 0)
is_declaration m = false

abbrev pub is_empty_list : List (List ℕ) → Bool
is_empty_list [] = true
is_empty_list (t ∷ ts) = false

-- Form: a line does not have the form that its first word asks for.
abbrev pub breaks_form : EngineWord → List ℕ → Bool
breaks_form engines.Id line = not (is_id (tokens (rest_after_token line)))
breaks_form engines.UciOk line = false
breaks_form engines.ReadyOk line = false
breaks_form engines.Best line = is_empty_list (tokens (rest_after_token line))
breaks_form engines.Info line = breaks_info_form (tokens (rest_after_token line))
breaks_form engines.Option line = not (is_declaration (engine_message line))
