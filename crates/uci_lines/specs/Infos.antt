-- The engine's report on its search.
use Rattle.std.specs.Prelude.{ℕ, List, [], ◌∷◌, codes, Bool, true}
use Rattle.std.specs.Prelude.{false, if◌then◌else◌, Option, None}
use Rattle.std.specs.Option.{option_or, option_map}
use Rattle.protocol_tokens.specs.Tokens.{tokens}
use Rattle.protocol_tokens.specs.Numbers.{count, centis}
use Rattle.chess_board.specs.declared.board.Move.{Move}
use Rattle.uci_lines.specs.declared.messages.Score.{Score}
use Rattle.uci_lines.specs.declared.messages.Score.TheVariants.{Cp, Mate}
use Rattle.uci_lines.specs.declared.info.InfoField.{InfoField}
use Rattle.uci_lines.specs.declared.info.InfoField.TheVariants as fields
use Rattle.uci_lines.specs.Cuts.{is_word}
use Rattle.chess_board.specs.Spelling.{move_spelled_by}
use Rattle.uci_lines.specs.Moves.{longest_move_run}
use Rattle.uci_lines.specs.Info.{Info}

-- the field that a token names
abbrev pub field_named : List ℕ → InfoField
field_named t =
    if is_word (codes "depth") t then fields.Depth
    else (if is_word (codes "time") t then fields.Time
    else (if is_word (codes "nodes") t then fields.Nodes
    else (if is_word (codes "multipv") t then fields.MultiPv
    else (if is_word (codes "currmovenumber") t then fields.Number
    else (if is_word (codes "score") t then fields.Score
    else (if is_word (codes "lowerbound") t then fields.Bound
    else (if is_word (codes "upperbound") t then fields.Bound
    else (if is_word (codes "currmove") t then fields.Current
    else (if is_word (codes "pv") t then fields.Pv
    else (if is_word (codes "string") t then fields.Text
    else fields.Other))))))))))

abbrev pub first_count : List (List ℕ) → Option ℕ
first_count [] = None
first_count (t ∷ ts) = count t

abbrev pub score_of : List ℕ → List ℕ → Option Score
score_of unit number =
    if is_word (codes "cp") unit then option_map (λ n. Cp n) (centis number)
    else (if is_word (codes "mate") unit then option_map (λ n. Mate n) (centis number) else None)

abbrev pub first_score : List (List ℕ) → Option Score
first_score [] = None
first_score (unit ∷ []) = None
first_score (unit ∷ number ∷ ts) = score_of unit number

abbrev pub first_move : List (List ℕ) → Option Move
first_move [] = None
first_move (t ∷ ts) = move_spelled_by t

-- a run of moves takes the place of an earlier one, unless it is empty
abbrev pub newer_run : List Move → List Move → List Move
newer_run [] old = old
newer_run (m ∷ moves) old = m ∷ moves

-- The meaning of a field, with the tokens after its word. If what must follow does not, nothing changes.
abbrev pub hear : InfoField → Info → List (List ℕ) → Info
hear fields.Depth f ts = record f { depth = option_or (first_count ts) f.depth }
hear fields.Time f ts = record f { time = option_or (first_count ts) f.time }
hear fields.Nodes f ts = record f { nodes = option_or (first_count ts) f.nodes }
hear fields.MultiPv f ts = record f { multipv = option_or (first_count ts) f.multipv }
hear fields.Number f ts = record f { number = option_or (first_count ts) f.number }
hear fields.Score f ts = record f { score = option_or (first_score ts) f.score }
hear fields.Bound f ts = record f { bound = true }
hear fields.Current f ts = record f { current = option_or (first_move ts) f.current }
hear fields.Pv f ts = record f { pv = newer_run (longest_move_run ts) f.pv }
hear fields.Text f ts = f
hear fields.Other f ts = f

abbrev pub ends_info : InfoField → Bool
ends_info fields.Text = true
ends_info _ = false

-- The tokens are read from left to right, up to `string`. What a field takes names no field itself,
-- so it may be ignored like any other token.
abbrev pub facts_from : Info → List (List ℕ) → Info
facts_from f [] = f
facts_from f (t ∷ ts) =
    if ends_info (field_named t) then f else facts_from (hear (field_named t) f ts) ts

abbrev pub no_facts : Info
no_facts = record {
  depth = None;
  time = None;
  nodes = None;
  multipv = None;
  number = None;
  score = None;
  bound = false;
  current = None;
  pv = [];
}

-- the text behind `info`
unfoldable pub facts_in : List ℕ → Info
facts_in text = facts_from no_facts (tokens text)
