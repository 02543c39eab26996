-- The meaning of a line of the engine.
use Rattle.std.specs.Prelude.{ℕ, ℤ, List, [], ◌∷◌, codes, Bool, ◌||◌}
use Rattle.std.specs.Prelude.{if◌then◌else◌, Option, Some, None}
use Rattle.std.specs.Str.{bytes_eq}
use Rattle.protocol_tokens.specs.Tokens.{tokens, first_token, rest_after_token}
use Rattle.protocol_tokens.specs.Numbers.{number}
use Rattle.driver_state_machine.specs.declared.said.EngineSaid.{EngineSaid}
use Rattle.driver_state_machine.specs.declared.said.EngineSaid.TheVariants as said
use Rattle.driver_state_machine.specs.declared.said.EngineWord.{EngineWord}
use Rattle.driver_state_machine.specs.declared.said.EngineWord.TheVariants as words
use Rattle.driver_state_machine.specs.Numbers.{next_number, natural, clamped_score, ten_times}

-- the same, whatever memory the texts lie in
pub data EngineMessageSeen : Type 0 where
  Other : EngineMessageSeen
  Move : (text : List ℕ) → EngineMessageSeen
  Over : EngineMessageSeen
  Pong : (n : ℕ) → EngineMessageSeen
  Feature : (text : List ℕ) → EngineMessageSeen
  Report : (depth : ℕ) (score : ℤ) (time nodes : ℕ) (moves : List (List ℕ)) → EngineMessageSeen

abbrev pub engine_message_seen : EngineSaid → EngineMessageSeen
engine_message_seen said.Other = Other
engine_message_seen (said.Move text) = Move text.now
engine_message_seen said.Over = Over
engine_message_seen (said.Pong n) = Pong n
engine_message_seen (said.Feature text) = Feature text.now
engine_message_seen (said.Report depth score time nodes moves) =
    Report depth score time nodes (tokens moves.now)

-- the engine resigns, or claims a result
abbrev pub engine_gives_up : List ℕ → Bool
engine_gives_up word =
    ((bytes_eq word (codes "resign") || bytes_eq word (codes "1-0")) || bytes_eq word (codes "0-1"))
    || bytes_eq word (codes "1/2-1/2")

abbrev pub word_named : List ℕ → EngineWord
word_named word =
    if bytes_eq word (codes "move") then words.Move
    else (if engine_gives_up word then words.Over
    else (if bytes_eq word (codes "pong") then words.Pong
    else (if bytes_eq word (codes "feature") then words.Feature
    else words.Other)))

abbrev pub report_fourth : ℤ → ℤ → ℤ → Option (ℤ × List (List ℕ)) → Option EngineMessageSeen
report_fourth depth score time None = None
report_fourth depth score time (Some p) =
    Some (Report (natural depth) (clamped_score score) (ten_times (natural time)) (natural p.0) p.1)

abbrev pub report_third : ℤ → ℤ → Option (ℤ × List (List ℕ)) → Option EngineMessageSeen
report_third depth score None = None
report_third depth score (Some p) = report_fourth depth score p.0 (next_number p.1)

abbrev pub report_second : ℤ → Option (ℤ × List (List ℕ)) → Option EngineMessageSeen
report_second depth None = None
report_second depth (Some p) = report_third depth p.0 (next_number p.1)

abbrev pub report_by : Option (ℤ × List (List ℕ)) → Option EngineMessageSeen
report_by None = None
report_by (Some p) = report_second p.0 (next_number p.1)

-- four numbers are the first tokens: depth, score, time in hundredths of a second, nodes
abbrev pub report_in : List (List ℕ) → Option EngineMessageSeen
report_in ts = report_by (next_number ts)

abbrev pub pong_number_in : List (List ℕ) → Option ℕ
pong_number_in [] = None
pong_number_in (t ∷ ts) = number t

abbrev pub or_other : Option EngineMessageSeen → EngineMessageSeen
or_other None = Other
or_other (Some s) = s

abbrev pub pong_by : Option ℕ → EngineMessageSeen
pong_by None = Other
pong_by (Some n) = Pong n

abbrev pub says_by : EngineWord → List ℕ → EngineMessageSeen
says_by words.Move line = Move (first_token (rest_after_token line))
says_by words.Over line = Over
says_by words.Pong line = pong_by (pong_number_in (tokens (rest_after_token line)))
says_by words.Feature line = Feature (rest_after_token line)
says_by words.Other line = or_other (report_in (tokens line))

-- the meaning of a line, by its first token; of a thinking line, by its first four
unfoldable pub says_in : List ℕ → EngineMessageSeen
says_in line = says_by (word_named (first_token line)) line
