-- The message that a line of the engine spells: the grammar as a relation, row by row.
use Rattle.std.specs.Prelude.{◌≡◌, ◌≢◌, ◌⊎◌, ℕ, ℤ, int_lt, List, [], ◌∷◌, ◌++◌}
use Rattle.std.specs.Prelude.{codes, Bool, true, false, not, Option, Some, None}
use Rattle.std.specs.Int.{int_min, int_max}
use Rattle.std.specs.List.{list_all}
use Rattle.protocol_tokens.specs.Tokens.{is_white, is_token, tokens, trimmed, first_token, rest_after_token}
use Rattle.protocol_tokens.specs.Numbers.{count, centis, signed_number}
use Rattle.chess_board.specs.declared.board.Move.{Move}
use Rattle.chess_board.specs.Text.{SpellsMove as MoveSpells}
use Rattle.uci_lines.specs.declared.messages.Score.TheVariants.{Cp, Mate}
use Rattle.uci_lines.specs.Cuts.{Found, is_word, is_known, is_choice}
use Rattle.uci_lines.specs.Options.{option_text_shown}
use Rattle.uci_lines.specs.Infos.{no_facts}
use Rattle.uci_lines.specs.Info.{Info as AnyInfo}
use Rattle.uci_lines.specs.Messages.{OptionKind, Check, Spin, Combo, Button, Text, EngineMsg}
use Rattle.uci_lines.specs.Messages.{Name, UciOk, ReadyOk, Best, OptionLine, Info, Nothing}

-- WORDS IN A TEXT

abbrev pub begins_white : List ℕ → Bool
begins_white [] = true
begins_white (b ∷ bs) = is_white b

-- true if a text ends with white space; of an empty text it is said
abbrev pub ends_white : Bool → List ℕ → Bool
ends_white fresh [] = fresh
ends_white fresh (b ∷ bs) = ends_white (is_white b) bs

-- none of some tokens passes
abbrev pub IsNoneOf : (List ℕ → Bool) → List (List ℕ) → Type 0
IsNoneOf p ts = list_all (λ t. not (p t)) ts ≡ true

-- The first token of a text that passes, between the bytes before and after it.
pub record FirstTokenPasses (p : List ℕ → Bool) (text : List ℕ) (part : Found) : Type 0 where
  pub whole : text ≡ part.before ++ (part.word ++ part.after)
  pub token : is_token part.word ≡ true
  pub passes : p part.word ≡ true
  pub stands_apart : ends_white true part.before ≡ true
  pub ends_there : begins_white part.after ≡ true
  pub none_before : IsNoneOf p (tokens part.before)

-- the text behind the first such word; nothing if there is none
abbrev pub Behind : List ℕ → List ℕ → List ℕ → Type 0
Behind word text others =
    (IsNoneOf (is_word word) (tokens text) × (others ≡ []))
    ⊎ ((part : Found) × FirstTokenPasses (is_word word) text part × (others ≡ part.after))

-- the move that a text spells, or none if it spells none
abbrev pub PerhapsMove : List ℕ → Option Move → Type 0
PerhapsMove text (Some m) = MoveSpells text m
PerhapsMove text None = (m : Move) → MoveSpells text m → ⊥

-- OPTIONS

-- the last number that follows a word
pub record IsLast (word : List ℕ) (ts : List (List ℕ)) (n : ℤ) : Type 0 where
  pub before : List (List ℕ)
  pub digits : List ℕ
  pub others : List (List ℕ)
  pub whole : ts ≡ before ++ (word ∷ digits ∷ others)
  pub reads : signed_number digits ≡ Some n
  pub last : (bs : List (List ℕ)) (t : List ℕ) (cs : List (List ℕ)) → others ≡ bs ++ (word ∷ t ∷ cs)
      → signed_number t ≡ None

-- the text before the first `default` or `var`, trimmed
abbrev pub UpToChoice : List ℕ → List ℕ → Type 0
UpToChoice text value =
    (IsNoneOf is_choice (tokens text) × (value ≡ trimmed text))
    ⊎ ((part : Found) × FirstTokenPasses is_choice text part × (value ≡ trimmed part.before))

-- The values of a combo: each `var` takes the bytes up to the next `default` or `var`.
pub data HasValues : List ℕ → List (List ℕ) → Type 0 where
  Ended : {text : List ℕ} → IsNoneOf is_choice (tokens text) → HasValues text []
  Var : {text value : List ℕ} → {values : List (List ℕ)} → (part : Found)
      → FirstTokenPasses is_choice text part → part.word ≡ codes "var" → UpToChoice part.after value
      → HasValues part.after values
      → HasValues text (value ∷ values)
  Default : {text : List ℕ} → {values : List (List ℕ)} → (part : Found)
      → FirstTokenPasses is_choice text part → part.word ≡ codes "default" → HasValues part.after values
      → HasValues text values

-- the kind of an option, by the word after `type` and what follows it
abbrev pub HasShape : List ℕ → List ℕ → OptionKind → Type 0
HasShape word text (Check on) =
    (word ≡ codes "check") × (others : List ℕ) × Behind (codes "default") text others
    × (on ≡ is_word (codes "true") (first_token others))
HasShape word text (Spin default min max) =
    (word ≡ codes "spin") × (n : ℤ) × IsLast (codes "default") (tokens text) n
    × IsLast (codes "min") (tokens text) min × IsLast (codes "max") (tokens text) max
    × (int_lt max min ≡ false) × (default ≡ int_max min (int_min n max))
HasShape word text (Combo default values) =
    (word ≡ codes "combo")
    × ((others : List ℕ) × Behind (codes "default") text others × UpToChoice others default)
    × HasValues text values
HasShape word text Button = word ≡ codes "button"
HasShape word text (Text default) =
    (word ≡ codes "string") × (others : List ℕ) × Behind (codes "default") text others
    × (default ≡ option_text_shown (trimmed others))

-- the text behind `option`: `name`, the name up to the first `type`, and the kind
abbrev pub Declares : List ℕ → List ℕ → OptionKind → Type 0
Declares text name shape =
    (first_token text ≡ codes "name")
    × (part : Found) × FirstTokenPasses (is_word (codes "type")) (rest_after_token text) part
    × (name ≡ trimmed part.before)
    × HasShape (first_token part.after) (rest_after_token part.after) shape

-- WHAT IS REPORTED OF A SEARCH

-- no move text is first
abbrev pub NoMoveFirst : List (List ℕ) → Type 0
NoMoveFirst [] = Unit {0}
NoMoveFirst (t ∷ ts) = (m : Move) → MoveSpells t m → ⊥

-- the longest run of move texts at the start, and the tokens after it
pub data IsRun : List (List ℕ) → List Move → List (List ℕ) → Type 0 where
  Ends : {ts : List (List ℕ)} → NoMoveFirst ts → IsRun ts [] ts
  Goes : {t : List ℕ} → {m : Move} → {ts others : List (List ℕ)} → {moves : List Move}
      → MoveSpells t m → IsRun ts moves others → IsRun (t ∷ ts) (m ∷ moves) others

-- A field at the start of the tokens takes its value: what is reported then, and
-- the tokens that are left.
pub data FieldTakesValue (f : AnyInfo) : List (List ℕ) → AnyInfo → List (List ℕ) → Type 0 where
  Depth : {t : List ℕ} → {ts : List (List ℕ)} → {n : ℕ} → count t ≡ Some n
      → FieldTakesValue f (codes "depth" ∷ t ∷ ts) (record f { depth = Some n }) ts
  Time : {t : List ℕ} → {ts : List (List ℕ)} → {n : ℕ} → count t ≡ Some n
      → FieldTakesValue f (codes "time" ∷ t ∷ ts) (record f { time = Some n }) ts
  Nodes : {t : List ℕ} → {ts : List (List ℕ)} → {n : ℕ} → count t ≡ Some n
      → FieldTakesValue f (codes "nodes" ∷ t ∷ ts) (record f { nodes = Some n }) ts
  MultiPv : {t : List ℕ} → {ts : List (List ℕ)} → {n : ℕ} → count t ≡ Some n
      → FieldTakesValue f (codes "multipv" ∷ t ∷ ts) (record f { multipv = Some n }) ts
  Number : {t : List ℕ} → {ts : List (List ℕ)} → {n : ℕ} → count t ≡ Some n
      → FieldTakesValue f (codes "currmovenumber" ∷ t ∷ ts) (record f { number = Some n }) ts
  Centipawns : {t : List ℕ} → {ts : List (List ℕ)} → {n : ℤ} → centis t ≡ Some n
      → FieldTakesValue f (codes "score" ∷ codes "cp" ∷ t ∷ ts) (record f { score = Some (Cp n) }) ts
  ToMate : {t : List ℕ} → {ts : List (List ℕ)} → {n : ℤ} → centis t ≡ Some n
      → FieldTakesValue f (codes "score" ∷ codes "mate" ∷ t ∷ ts) (record f { score = Some (Mate n) }) ts
  LowerBound : {ts : List (List ℕ)}
      → FieldTakesValue f (codes "lowerbound" ∷ ts) (record f { bound = true }) ts
  UpperBound : {ts : List (List ℕ)}
      → FieldTakesValue f (codes "upperbound" ∷ ts) (record f { bound = true }) ts
  Current : {t : List ℕ} → {ts : List (List ℕ)} → {m : Move} → MoveSpells t m
      → FieldTakesValue f (codes "currmove" ∷ t ∷ ts) (record f { current = Some m }) ts
  Pv : {ts others : List (List ℕ)} → {m : Move} → {moves : List Move} → IsRun ts (m ∷ moves) others
      → FieldTakesValue f (codes "pv" ∷ ts) (record f { pv = m ∷ moves }) others

-- The final report, by the tokens from left to right: a later value replaces an earlier
-- one, and a token that takes nothing is skipped.
pub data ReportsFacts : AnyInfo → List (List ℕ) → AnyInfo → Type 0 where
  End : {f : AnyInfo} → ReportsFacts f [] f
  Rest : {f : AnyInfo} → {ts : List (List ℕ)} → ReportsFacts f (codes "string" ∷ ts) f
  Taken : {f g h : AnyInfo} → {ts others : List (List ℕ)} → FieldTakesValue f ts g others → ReportsFacts g others h
      → ReportsFacts f ts h
  Skipped : {f h : AnyInfo} → {t : List ℕ} → {ts : List (List ℕ)} → t ≢ codes "string"
      → ((g : AnyInfo) (others : List (List ℕ)) → FieldTakesValue f (t ∷ ts) g others → ⊥)
      → ReportsFacts f ts h → ReportsFacts f (t ∷ ts) h

-- MESSAGES

-- the first known word of a line, and what follows it
abbrev pub FirstKnownWordIs : List ℕ → List ℕ → List ℕ → Type 0
FirstKnownWordIs line word text =
    (part : Found) × FirstTokenPasses is_known line part × (part.word ≡ word) × (part.after ≡ text)

-- a line has the form of a message
abbrev pub HasForm : List ℕ → EngineMsg → Type 0
HasForm line (Name name) =
    (text : List ℕ) × FirstKnownWordIs line (codes "id") text × (first_token text ≡ codes "name")
    × (name ≡ rest_after_token text)
HasForm line UciOk = (text : List ℕ) × FirstKnownWordIs line (codes "uciok") text
HasForm line ReadyOk = (text : List ℕ) × FirstKnownWordIs line (codes "readyok") text
HasForm line (Best best hint) =
    (text : List ℕ) × FirstKnownWordIs line (codes "bestmove") text × PerhapsMove (first_token text) best
    × (others : List ℕ) × Behind (codes "ponder") (rest_after_token text) others
    × PerhapsMove (first_token others) hint
HasForm line (OptionLine name shape) =
    (text : List ℕ) × FirstKnownWordIs line (codes "option") text × Declares text name shape
HasForm line (Info facts) =
    (text : List ℕ) × FirstKnownWordIs line (codes "info") text × ReportsFacts no_facts (tokens text) facts
HasForm line Nothing = ⊥

-- A line spells a message: the one whose form it has, and Nothing if it has none.
abbrev pub SpellsMessage : List ℕ → EngineMsg → Type 0
SpellsMessage line Nothing = (m : EngineMsg) → HasForm line m → ⊥
SpellsMessage line m = HasForm line m

-- A line spells exactly one message.
abbrev pub SpellsOneEngineMessage : Type 0
SpellsOneEngineMessage =
    (line : List ℕ)
    → (m : EngineMsg) × SpellsMessage line m × ((k : EngineMsg) → SpellsMessage line k → k ≡ m)
