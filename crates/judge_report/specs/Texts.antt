-- The lines of a report.
use Rattle.std.specs.Prelude.{ℕ, List, [], ◌∷◌, ◌++◌, codes, decimal, Bool, true}
use Rattle.std.specs.Prelude.{false, ◌==◌, if◌then◌else◌, Option, Some, None}
use Rattle.chess_board.specs.declared.board.Move.{Move}
use Rattle.chess_board.specs.Text.{text_of_move}
use Rattle.protocol_tokens.specs.declared.kinds.GoKind.{GoKind}
use Rattle.protocol_tokens.specs.declared.kinds.GoKind.TheVariants as kinds
use Rattle.session_judge.specs.declared.rule.Rule.{Rule}
use Rattle.session_judge.specs.declared.rule.Rule.TheVariants as rules
use Rattle.session_judge.specs.declared.search.Search.{Search}
use Rattle.line_io.specs.Lines.{line_feed}

abbrev pub kind_text : GoKind → List ℕ
kind_text kinds.Move = codes "move"
kind_text kinds.Ponder = codes "ponder"
kind_text kinds.Analyse = codes "analyse"

abbrev pub end_text : Option ℕ → List ℕ
end_text None = codes "open"
end_text (Some line) = codes "to line " ++ decimal line

abbrev pub stop_text : Bool → List ℕ
stop_text true = codes "stopped"
stop_text false = codes "not stopped"

abbrev pub shown_move_text : Option Move → List ℕ
shown_move_text None = codes "none"
shown_move_text (Some m) = text_of_move m

-- `search K: KIND, from line A`
abbrev pub begun_text : Search → List ℕ
begun_text s =
    codes "search " ++ decimal s.number ++ codes ": " ++ kind_text s.kind ++ codes ", from line "
    ++ decimal s.begun

-- `, END, STOP, M`
abbrev pub search_end_text : Search → List ℕ
search_end_text s =
    codes ", " ++ end_text s.ended ++ codes ", " ++ stop_text s.stopped ++ codes ", "
    ++ shown_move_text s.shown ++ line_feed ∷ []

-- `search K: KIND, from line A, END, STOP, M`
abbrev pub search_line : Search → List ℕ
search_line s = begun_text s ++ search_end_text s

-- the line of a search, if there is one
abbrev pub search_report : Option Search → List ℕ
search_report None = []
search_report (Some s) = search_line s

abbrev pub rule_text : Rule → List ℕ
rule_text rules.First = codes "first"
rule_text rules.Gone = codes "gone"
rule_text rules.Quit = codes "quit"
rule_text rules.Order = codes "order"
rule_text rules.Busy = codes "busy"
rule_text rules.Stop = codes "stop"
rule_text rules.Hit = codes "hit"
rule_text rules.Position = codes "position"
rule_text rules.Move = codes "move"

-- `crossings: N`
abbrev pub count_line : ℕ → List ℕ
count_line n = codes "crossings: " ++ decimal n ++ line_feed ∷ []

-- if an order crossed
abbrev pub crossings_line : ℕ → List ℕ
crossings_line n = if n == 0 then [] else count_line n

abbrev pub lawful_line : List ℕ
lawful_line = codes "lawful talk" ++ line_feed ∷ []

abbrev pub unlawful_line : ℕ → Rule → List ℕ
unlawful_line line rule =
    codes "unlawful at line " ++ decimal line ++ codes ": " ++ rule_text rule ++ line_feed ∷ []
