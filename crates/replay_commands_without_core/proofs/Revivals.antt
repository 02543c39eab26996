-- The meaning of the status of the command `revive`.
use Rattle.std.proofs.Common.{◌≡◌, ◌⊎◌, inl, inr, ℕ, ◌+◌, ◌^◌, ◌<◌, List, [], ◌∷◌, ◌++◌, length, take, true, false, is_some, Option, refl, sym, ap, subst, ◌∙◌, arith, append_assoc}
use Rattle.std.proofs.Math.Seq.{take-length}
use Rattle.std.specs.Io.KnownBytes.{Appends}
use Rattle.std.specs.List.{AllByRecursion}
use Rattle.std.proofs.lemmas.List.Concat.{flat_map-append}
use Rattle.line_io.specs.Event.{Event}
use Rattle.line_io.specs.Lines.{Piece, items}
use Rattle.line_io.specs.Runs.{whole}
use Rattle.replay_command_base.specs.declared.ending.Ending.{Ending}
use Rattle.replay_command_base.specs.declared.ending.Ending.TheVariants as endings
use Rattle.replay_command_base.specs.Diagnostics.{command_status, command_diagnostic, tail_of}
use Rattle.replay_command_base.specs.Ran.{FilterRan}
use Rattle.replay_command_base.specs.Reads.{AreRead}
use Rattle.replay_command_base.specs.Streams.{FilterStreams, AreSame}
use Rattle.replay_command_base.specs.DiagnosticWritten.{DiagnosticWritten}
use Rattle.replay_command_base.proofs.Readings.{read_prefix, first_of, all_of}
use Rattle.line_io.specs.Source.{Received, Supplied}
use Rattle.replay_command_base.proofs.Outcomes.{outcome}
use Rattle.replay_command_base.specs.Outcomes.{LineReported, Outcome, WroteLast}
use Rattle.replay_command_base.specs.Putting.{IsOfLine}
use Rattle.replay_command_base.specs.Filtered.{FilterEndsBy, IsText, WrotePrefix, WroteAll, WroteWhole}
use Rattle.engine_revival.specs.declared.state.RevivalState.{RevivalState}
use Rattle.engine_revival.specs.Steps.{opening_revival}
use Rattle.engine_revival.proofs.Talks.{talk_is_lawful}
use Rattle.script_lines.specs.Marks.{Mark}
use Rattle.engine_revival.specs.Script.{AllMayHappen, may_happen, revival_script, revival_state_after, state_behind}
use Rattle.replay_commands_without_core.specs.Played.{ArePlayed, IsFirstUnplayed, IsReasonNotToPlay, event_by, played_events, mark_to_play, revival_of_lines, state_over}
use Rattle.replay_commands_without_core.specs.Revived.{AllRevived, CompletesRevival, ReviveFaultReported, PrefixRevived, MuchRevived, RevivesAll, ReviveCommandIs, RevivesAgain, WholeRevived}
use Rattle.replay_commands_without_core.specs.Reviving.{ReviveCloses, ReviveEndsWith, ReviveStops, revives}
use Rattle.replay_commands_without_core.proofs.Again.{script_again}

-- FIRST LINES

-- NO FAULT WHERE ALL LINES ARE PLAYED

is_marked : (before : List Piece) (line : Piece) (more : List Piece) → AllByRecursion (λ l. is_some (mark_to_play l) ≡ true) (before ++ line ∷ more) → is_some (mark_to_play line) ≡ true
is_marked [] line more h = h.0
is_marked (b ∷ bs) line more h = is_marked bs line more h.1

may_part : (s : RevivalState) (events more : List Event) (e : Event) → AllMayHappen s (events ++ e ∷ more) → may_happen (state_behind s events) e ≡ true
may_part s [] more e h = h.0
may_part s (x ∷ xs) more e h = may_part (revival_state_after s x) xs more e h.1

not_reason : (lives : ℕ) (before : List Piece) (line : Piece) (more : List Piece) (n : ℕ) (f : Ending) → ArePlayed lives (before ++ line ∷ more) → IsReasonNotToPlay (state_over lives before) n line f → ⊥
not_reason lives before line more n (endings.NoMark k) p r =
    let marked = is_marked before line more p.marked in
    let none : is_some (mark_to_play line) ≡ false = ap (λ (x : Option Mark). is_some x) r.1 in
    let both = sym marked ∙ none in
    cc
not_reason lives before line more n (endings.MayNotCome k) p r =
    let e = r.1.0 in
    let all : played_events (before ++ line ∷ more) ≡ played_events before ++ e ∷ played_events more =
    flat_map-append (λ (l : Piece). event_by (mark_to_play l)) before (line ∷ more)
    ∙ ap (λ (x : Option Mark). played_events before ++ (event_by x ++ played_events more)) r.1.1 in
    let comes = may_part (opening_revival lives) (played_events before) (played_events more) e (subst (λ (es : List Event). AllMayHappen (opening_revival lives) es) all p.may_come) in
    let both = sym comes ∙ r.1.2 in
    cc
not_reason lives before line more n f p r = r

no_fault : (lives : ℕ) (lines more all : List Piece) (f : Ending) → all ≡ lines ++ more → IsFirstUnplayed lives lines f → ArePlayed lives all → ⊥
no_fault lives lines more all f e i p =
    not_reason lives i.before i.line more (length i.before + 1) f
    (subst (λ (ls : List Piece). ArePlayed lives ls) (e ∙ ap (λ (ls : List Piece). ls ++ more) i.lines_are ∙ append_assoc i.before (i.line ∷ []) more) p)
    i.reason

-- WHAT THE STATUS SAYS

module _ (lives : ℕ) (U : Type 0) (start now : FilterStreams) (code : ℕ) (r : FilterRan (λ e. FilterEndsBy revives (opening_revival lives) U e start now) start now code) (o : Outcome revives (opening_revival lives) U start now code) where
  abbrev Wrote : List ℕ → Type 0
  Wrote text = Appends start.output.taken now.output.taken text

  all_by : WroteAll revives (opening_revival lives) start now → AreSame start now → AllRevived lives start now
  all_by w s =
      let c = w.says lives refl in
      record { got = w.got; reads = w.reads; all_read = w.all; played = c.played; written = subst Wrote c.text_is w.written; no_failure = s }

  abbrev Reported : ℕ → Type 0
  Reported n = LineReported revives (opening_revival lives) start now n

  -- a line that ends it is a fault
  stops_by : (lines : List Piece) (e : Ending) (text : List ℕ) → IsOfLine e → ReviveEndsWith lives lines e text → ReviveStops lives lines e text × (command_status e ≡ 2)
  stops_by lines (endings.NoMark n) text i s = (s, refl)
  stops_by lines (endings.MayNotCome n) text i s = (s, refl)
  stops_by lines (endings.OutOfStep n) text i s = absurd s
  stops_by lines (endings.Differs n) text i s = absurd s
  stops_by lines (endings.Unlawful n) text i s = absurd s
  stops_by lines e text i s = absurd i

  the_fault : (n : ℕ) (r : Reported n) → ReviveStops lives r.wrote.lines r.ending r.wrote.text × (command_status r.ending ≡ 2)
  the_fault n r = stops_by r.wrote.lines r.ending r.wrote.text r.of_line (r.wrote.says lives refl)

  reported : (n : ℕ) → Reported n → ReviveFaultReported lives start now
  reported n r =
      let f = (the_fault n r).0 in
      record {
        fault = r.ending;
        lines = r.wrote.lines;
        read = r.wrote.read;
        is_fault = f.is_fault;
        written = subst Wrote f.text_is r.wrote.written;
        announced = r.announced;
      }

  reported_code : (n : ℕ) → Reported n → n ≡ 2
  reported_code n r = r.code_is ∙ (the_fault n r).1

  no_other : code ≡ 1 → ⊥
  no_other z = let n = reported_code 1 (o.found z) in cc

  abbrev pub whole_by : (w : (ending : Ending) × (least : ℕ) × WroteWhole revives (opening_revival lives) ending least start now) → ReviveCloses lives (whole 131072 w.2.got) w.2.text → WholeRevived lives start now
  whole_by w c = record {
    got = w.2.got;
    reads = w.2.reads;
    first = w.2.first;
    played = c.played;
    written = subst Wrote c.text_is w.2.written;
  }

  -- A PREFIX

  abbrev Prefix : List ℕ → Type 0
  Prefix text = (lines : List Piece) × AreRead start now lines × ArePlayed lives lines × (text ≡ revival_of_lines lives lines)

  of_stop : (lines : List Piece) (e : Ending) (text : List ℕ) → AreRead start now lines → ReviveStops lives lines e text → Prefix text
  of_stop lines e text r s = (s.is_fault.before, read_prefix start now lines s.is_fault.before (s.is_fault.line ∷ []) s.is_fault.lines_are r, s.is_fault.played, s.text_is)

  of_close : (lines : List Piece) (text : List ℕ) → AreRead start now lines → ReviveCloses lives lines text → Prefix text
  of_close lines text r c = (lines, r, c.played, c.text_is)

  of_says : (lines : List Piece) (e : Ending) (text : List ℕ) → AreRead start now lines → ReviveEndsWith lives lines e text → Prefix text
  of_says lines (endings.NoMark n) text r s = of_stop lines (endings.NoMark n) text r s
  of_says lines (endings.MayNotCome n) text r s = of_stop lines (endings.MayNotCome n) text r s
  of_says lines endings.Done text r s = of_close lines text r s
  of_says lines endings.ReadingFailed text r s = of_close lines text r s
  of_says lines endings.TooLong text r s = of_close lines text r s
  of_says lines e text r s = absurd s

  of_text : (lines : List Piece) (text : List ℕ) → AreRead start now lines → IsText revives (opening_revival lives) lines text → Prefix text
  of_text lines text r (inl p) = let h = p.1 lives refl in (lines, r, h.played, h.text_is)
  of_text lines text r (inr p) = of_says lines p.0 text r (p.1 lives refl)

  prefix_of : (text : List ℕ) (prefix : ℕ) → Prefix text → Wrote (take prefix text) → PrefixRevived lives start now
  prefix_of text prefix f w = record {
    lines = f.0;
    read = f.1;
    played = f.2;
    prefix = prefix;
    written = subst (λ (t : List ℕ). Wrote (take prefix t)) f.3 w;
  }

  prefix_by : WrotePrefix revives (opening_revival lives) start now ⊎ WroteLast revives (opening_revival lives) start now → PrefixRevived lives start now
  prefix_by (inl w) = prefix_of w.text w.prefix (of_text w.lines w.text w.read w.is_text) w.written
  prefix_by (inr w) = prefix_of w.text (length w.text) (of_says w.lines w.ending w.text w.read (w.says lives refl)) (subst Wrote (sym (take-length w.text)) w.written)

  writing : U ⊎ WrotePrefix revives (opening_revival lives) start now ⊎ WroteLast revives (opening_revival lives) start now → U ⊎ PrefixRevived lives start now
  writing (inl u) = inl u
  writing (inr p) = inr (prefix_by p)

  complete : CompletesRevival lives start now code
  complete x e l s = of (o.complete x e l s) where
    of : ((code ≡ 0) × WroteAll revives (opening_revival lives) start now) ⊎ LineReported revives (opening_revival lives) start now code ⊎ (code ≡ 3)
        → ((code ≡ 0) × AllRevived lives start now) ⊎ ((code ≡ 2) × ReviveFaultReported lives start now) ⊎ (code ≡ 3)
    of (inl p) = inl (p.0, all_by p.1 (o.done p.0).1)
    of (inr (inl r)) = inr (inl (reported_code code r, reported code r))
    of (inr (inr z)) = inr (inr z)

  plays_all : RevivesAll lives start now code
  plays_all x e l p s = of (complete x e l s) where
    of : ((code ≡ 0) × AllRevived lives start now) ⊎ ((code ≡ 2) × ReviveFaultReported lives start now) ⊎ (code ≡ 3) → (code ≡ 0) ⊎ (code ≡ 3)
    of (inl q) = inl q.0
    of (inr (inl q)) = let f = first_of start.input.left q.1.lines x q.1.read.of_left e in absurd (no_fault lives q.1.lines f.0 (items 131072 x) q.1.fault f.1 q.1.is_fault p)
    of (inr (inr z)) = inr z

  again : RevivesAgain lives start now code
  again events a m e l s = of (plays_all (revival_script lives events) e l (script_again lives events a m).0 s) where
    of : (code ≡ 0) ⊎ (code ≡ 3) → ((code ≡ 0) × Wrote (revival_script lives events)) ⊎ (code ≡ 3)
    of (inr z) = inr z
    of (inl z) =
        let d = o.done z in
        let r = all_by d.0 d.1 in
        let same = all_of start.input.left r.got (revival_script lives events) r.all_read e in
        inl (z, subst Wrote (ap (λ (t : List ℕ). revival_of_lines lives (items 131072 t)) (sym same) ∙ ap (λ (es : List Event). revival_script lives es) (script_again lives events a m).1) r.written)

  pub revived_by : ReviveCommandIs lives U start now code
  revived_by = record {
    ended = r;
    all_revived = λ z. let d = o.done z in all_by d.0 d.1;
    no_other = no_other;
    fault_reported = λ z. reported 2 (o.fault z);
    memory = λ z. o.memory z;
    reading_failed = λ z. let p = o.reading z in (p.0, whole_by (endings.ReadingFailed, 0, p.1) (p.1.says lives refl));
    writing_failed = λ z. let p = o.writing z in (p.0, writing p.1);
    too_long = λ z. let w = o.too_long z in record { whole_lines = whole_by (endings.TooLong, 2 ^ 32, w) (w.says lives refl); least = w.least_is };
    complete = complete;
    plays_all = plays_all;
    lawful = λ lines read p. talk_is_lawful lives (played_events lines) p.may_come;
    again = again;
  }

-- WITHOUT MEMORY

memory_ran : (lives : ℕ) (U : Type 0) (start now : FilterStreams) (code : ℕ) → U → now.input ≡ start.input → now.output ≡ start.output → DiagnosticWritten code 3 (tail_of endings.NoMemory) start.diag now.diag
    → FilterRan (λ e. FilterEndsBy revives (opening_revival lives) U e start now) start now code
memory_ran lives U start now code u i o t = record {
  ending = endings.NoMemory;
  ends = u;
  announces = t;
  reading = λ z. cc;
  writing = λ z. cc;
  read = λ a b. ap (λ (x : Supplied). x.faults) i;
  written = λ a. ap (λ (x : Received). x.faults) o;
}

pub want_of_memory : (lives : ℕ) (U : Type 0) (start now : FilterStreams) (code : ℕ) → U → now.input ≡ start.input → now.output ≡ start.output → DiagnosticWritten code 3 (tail_of endings.NoMemory) start.diag now.diag → ReviveCommandIs lives U start now code
want_of_memory lives U start now code u i o t = revived_by lives U start now code r (outcome revives (opening_revival lives) U start now code r)
  where
    r : FilterRan (λ e. FilterEndsBy revives (opening_revival lives) U e start now) start now code
    r = memory_ran lives U start now code u i o t
