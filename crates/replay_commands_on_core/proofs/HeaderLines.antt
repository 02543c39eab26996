-- The version that a script tells, and its lines after the header.
use Rattle.std.proofs.Common.{◌≡◌, ℕ, ◌≤◌, List, [], ◌∷◌, ◌++◌, map, length, Bool, true, false, cond, nat_le, Some, refl, ap, sym, ◌∙◌, arith}
use Rattle.line_io.specs.Event.{Event}
use Rattle.line_io.specs.Event as events
use Rattle.line_io.specs.Lines.{Piece, Whole, TooLong, items, parts_by_feed, piece_of}
use Rattle.policy_rules.specs.declared.setting_rules.settings.Settings.{Settings}
use Rattle.policy_rules.specs.SettingRules.Policy.{IsProper}
use Rattle.script_lines.specs.Header.{header_text}
use Rattle.script_lines.proofs.Headers.{header_again, header_length}
use Rattle.adapter_core.specs.Trace.{Step, iface_text, engine_text}
use Rattle.trace_scripts.proofs.Lines.{AreMarked, behind, event_lines, lines_of, script1_lines, step_lines, written_lines}
use Rattle.trace_scripts.proofs.Numbered.{numbered_lines, script2_lines}
use Rattle.replay_command_base.specs.declared.ending.Ending.{Ending}
use Rattle.script_replay.specs.Versions.{Version, First, Second, version_by, version_in, behind_header, script_by, script_fault}
use Rattle.script_replay.proofs.VersionLines.{version_stays}
use Rattle.replay_commands_on_core.specs.Replayed.{IsProperIn}
use Rattle.replay_commands_on_core.proofs.ProperHeaders.{IsNoHeader, no_header}
use Rattle.replay_commands_on_core.proofs.Replayed.{lines_behind, short_whole}

-- IN VERSION 1 NO LINE IS A HEADER

abbrev HaveNone : List (List ℕ) → Type 0
HaveNone [] = Unit {0}
HaveNone (l ∷ ls) = IsNoHeader l × HaveNone ls

none_both : (ls ms : List (List ℕ)) → HaveNone ls → HaveNone ms → HaveNone (ls ++ ms)
none_both [] ms a b = b
none_both (l ∷ ls) ms a b = (a.0, none_both ls ms a.1 b)

none_iface : (ls : List (List ℕ)) → HaveNone (map (behind 88) ls)
none_iface [] = tt
none_iface (l ∷ ls) = (no_header 88 (32 ∷ l) refl, none_iface ls)

none_engine : (ls : List (List ℕ)) → HaveNone (map (behind 85) ls)
none_engine [] = tt
none_engine (l ∷ ls) = (no_header 85 (32 ∷ l) refl, none_engine ls)

none_event : (e : Event) → HaveNone (event_lines e)
none_event events.Open = tt
none_event (events.Iface line) = (no_header 120 (32 ∷ line) refl, tt)
none_event events.IfaceLong = (no_header 120 (33 ∷ []) refl, tt)
none_event events.IfaceEnd = (no_header 120 (46 ∷ []) refl, tt)
none_event events.IfaceLost = (no_header 120 (63 ∷ []) refl, tt)
none_event (events.Engine line) = (no_header 117 (32 ∷ line) refl, tt)
none_event events.EngineLong = (no_header 117 (33 ∷ []) refl, tt)
none_event events.EngineEnd = (no_header 117 (46 ∷ []) refl, tt)
none_event events.EngineLost = (no_header 117 (63 ∷ []) refl, tt)

none_lines : (t : List Step) → HaveNone (lines_of t)
none_lines [] = tt
none_lines (s ∷ t) = none_both (lines_of t) (step_lines s) (none_lines t)
    (none_both (event_lines s.event) (written_lines (iface_text s) (engine_text s)) (none_event s.event) (none_both (map (behind 88) (parts_by_feed (iface_text s))) (map (behind 85) (parts_by_feed (engine_text s))) (none_iface (parts_by_feed (iface_text s))) (none_engine (parts_by_feed (engine_text s)))))

none_version : (ls : List (List ℕ)) → HaveNone ls → version_in (map (piece_of 131072) ls) ≡ First
none_version [] a = refl
none_version (l ∷ ls) a = by (nat_le (length l) 131072) where
  by : (b : Bool) → version_in (cond b (Whole l) TooLong ∷ map (piece_of 131072) ls) ≡ First
  by true = ap version_by a.0.none
  by false = refl

-- IN VERSION 2 THE FIRST LINE IS ONE

header_whole : (s : Settings) → IsProper s → piece_of 131072 (header_text s) ≡ Whole (header_text s)
header_whole s p = let n = header_length s p in let l : length (header_text s) ≤ 131072 = omega (arith, n) in short_whole (header_text s) l

-- BOTH VERSIONS

abbrev with_header : Version → List Piece → List Piece
with_header First ls = ls
with_header (Second s) ls = Whole (header_text s) ∷ ls

script_pieces : (v : Version) → IsProperIn v → (t : List Step) → AreMarked t → items 131072 (script_by v t) ≡ with_header v (map (piece_of 131072) (lines_behind v t))
script_pieces First p t a = ap (map (piece_of 131072)) (script1_lines t a)
script_pieces (Second s) p t a = ap (map (piece_of 131072)) (script2_lines s t p a) ∙ ap (λ (x : Piece). x ∷ map (piece_of 131072) (numbered_lines t)) (header_whole s p)

header_version : (v : Version) → IsProperIn v → (t : List Step) → version_in (with_header v (map (piece_of 131072) (lines_behind v t))) ≡ v
header_version First p t = none_version (lines_of t) (none_lines t)
header_version (Second s) p t = ap version_by (header_again s p)

without_header : (v : Version) (ls : List Piece) → behind_header v (with_header v ls) ≡ ls
without_header First ls = refl
without_header (Second s) ls = refl

-- a script states its version
pub script_version : (v : Version) → IsProperIn v → (t : List Step) → AreMarked t → version_in (items 131072 (script_by v t)) ≡ v
script_version v p t a = ap version_in (script_pieces v p t a) ∙ header_version v p t

-- its lines after the header
pub script_behind : (v : Version) → IsProperIn v → (t : List Step) → AreMarked t → behind_header v (items 131072 (script_by v t)) ≡ map (piece_of 131072) (lines_behind v t)
script_behind v p t a = ap (behind_header v) (script_pieces v p t a) ∙ without_header v (map (piece_of 131072) (lines_behind v t))

-- lines with a fault state the version of all lines
pub fault_version : (lines more : List Piece) (fault : Ending) → script_fault lines ≡ Some fault → version_in lines ≡ version_in (lines ++ more)
fault_version [] more fault e = cc
fault_version (l ∷ ls) more fault e = sym (version_stays l ls more)
