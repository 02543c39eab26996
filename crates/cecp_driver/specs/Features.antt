-- The changes by the features of the engine, and the output to both sides for them.
use Rattle.std.specs.Prelude.{ℕ, Bool, ◌&&◌, ◌||◌, not, if◌then◌else◌, List, []}
use Rattle.std.specs.Prelude.{◌∷◌, ◌++◌, ◌+◌, length, codes, Option, Some, None}
use Rattle.std.specs.Str.{bytes_eq}
use Rattle.driver_state_machine.specs.Parts.{Feature, CutFeature}
use Rattle.driver_state_machine.specs.Lines.{DownLine, Accepted, Rejected, id_text}
use Rattle.cecp_driver.specs.declared.features.HasFeatures.{HasFeatures}
use Rattle.line_io.specs.Lines.{line_feed}

abbrev pub feature_has_word : List ℕ → Feature → Bool
feature_has_word name f = bytes_eq f.name name

-- NAME=1
abbrev pub is_feature_on : List ℕ → Feature → Bool
is_feature_on name f = bytes_eq f.name name && bytes_eq f.value (codes "1")

-- `san=1`, `option`, `memory`, `smp` and `egt` are rejected
abbrev pub rejects : Feature → Bool
rejects f =
    (((is_feature_on (codes "san") f || feature_has_word (codes "option") f) || feature_has_word (codes "memory") f)
    || feature_has_word (codes "smp") f)
    || feature_has_word (codes "egt") f

abbrev pub answer_line : Feature → DownLine
answer_line f = if rejects f then Rejected f.name else Accepted f.name

abbrev pub feature_answers : List Feature → List DownLine
feature_answers [] = []
feature_answers (f ∷ fs) = answer_line f ∷ feature_answers fs

-- a feature that came once stays
abbrev pub has_after : HasFeatures → Feature → HasFeatures
has_after h f = record {
  ping = h.ping || is_feature_on (codes "ping") f;
  setboard = h.setboard || is_feature_on (codes "setboard") f;
  usermove = h.usermove || is_feature_on (codes "usermove") f;
  analyze = h.analyze || is_feature_on (codes "analyze") f;
  done = h.done || is_feature_on (codes "done") f;
}

-- the last `myname` counts
abbrev pub name_after : List ℕ → Feature → List ℕ
name_after name f = if feature_has_word (codes "myname") f then f.value else name

abbrev pub has_all : HasFeatures → List Feature → HasFeatures
has_all h [] = h
has_all h (f ∷ fs) = has_all (has_after h f) fs

abbrev pub name_all : List ℕ → List Feature → List ℕ
name_all name [] = name
name_all name (f ∷ fs) = name_all (name_after name f) fs

-- the first `done=1`
abbrev pub greets : HasFeatures → Feature → Bool
greets h f = not h.done && is_feature_on (codes "done") f

-- then the interface gets the name and `uciok`
abbrev pub greeting : HasFeatures → List ℕ → Feature → List ℕ
greeting h name f =
    if greets h f
    then (id_text name ++ line_feed ∷ []) ++ (codes "uciok" ++ line_feed ∷ [])
    else []

abbrev pub greetings : HasFeatures → List ℕ → List Feature → List ℕ
greetings h name [] = []
greetings h name (f ∷ fs) = greeting h name f ++ greetings (has_after h f) (name_after name f) fs

-- how many bytes a feature and what follows it have at least
abbrev pub weight_by : Option Feature → List ℕ → ℕ
weight_by None rest = length rest
weight_by (Some f) rest = length f.name + length rest + 1

abbrev pub feature_weight : CutFeature → ℕ
feature_weight c = weight_by c.part c.rest
