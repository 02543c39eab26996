-- The lines of a report on an engine's conduct.
use Rattle.std.specs.Prelude.{ℕ, List, [], ◌∷◌, ◌++◌, codes, decimal, ◌==◌, if◌then◌else◌}
use Rattle.std.specs.Prelude.{Option, Some, None}
use Rattle.line_io.specs.Lines.{line_feed}
use Rattle.engine_conduct.specs.declared.rule.ConductFault.{ConductFault}
use Rattle.engine_conduct.specs.declared.rule.ConductRule.{ConductRule}
use Rattle.engine_conduct.specs.declared.rule.ConductRule.TheVariants as rules

abbrev pub conduct_rule_text : ConductRule → List ℕ
conduct_rule_text rules.Form = codes "form"
conduct_rule_text rules.Unasked = codes "unasked"
conduct_rule_text rules.Late = codes "late"
conduct_rule_text rules.Declared = codes "option"
conduct_rule_text rules.Infinite = codes "infinite"
conduct_rule_text rules.Best = codes "move"
conduct_rule_text rules.Pv = codes "pv"
conduct_rule_text rules.SearchMoves = codes "searchmoves"
conduct_rule_text rules.Ponder = codes "ponder"
conduct_rule_text rules.Gone = codes "gone"

-- `fault at line N: RULE`
abbrev pub fault_line : ℕ → ConductRule → List ℕ
fault_line line rule =
    codes "fault at line " ++ decimal line ++ codes ": " ++ conduct_rule_text rule ++ line_feed ∷ []

abbrev pub fault_report : Option ConductFault → List ℕ
fault_report None = []
fault_report (Some f) = fault_line f.line f.rule

abbrev pub counted_line : List ℕ → ℕ → List ℕ
counted_line word n = word ++ decimal n ++ line_feed ∷ []

-- `not judged from line N`
abbrev pub unjudged_line : Option ℕ → List ℕ
unjudged_line None = []
unjudged_line (Some n) = counted_line (codes "not judged from line ") n

-- `searches without a position: K`
abbrev pub unplaced_line : ℕ → List ℕ
unplaced_line n = if n == 0 then [] else counted_line (codes "searches without a position: ") n

-- `engine: no fault`, or `engine: faults: N`
abbrev pub conduct_end_line : ℕ → List ℕ
conduct_end_line n =
    if n == 0 then codes "engine: no fault" ++ line_feed ∷ [] else counted_line (codes "engine: faults: ") n

-- what comes last
abbrev pub conduct_last_lines : Option ℕ → ℕ → ℕ → List ℕ
conduct_last_lines from unplaced faults =
    unjudged_line from ++ unplaced_line unplaced ++ conduct_end_line faults
