-- The record of a run in the ledger of a host that reports its bytes.
use Rattle.std.proofs.Common.{◌≡◌, ◌∙◌, ℕ, zero, suc, Bool, true, false, refl, sym, ap, subst, List, [], ◌∷◌, ◌++◌, append-nil, Option, Some, None, IfSome}
use Rattle.std.specs.Io.KnownBytes.{Appends, Consumes, IsAtEnd}
use Rattle.line_io.specs.Source.{Supplied, Received}
use Rattle.line_io.specs.Event.{Event}
use Rattle.line_io.specs.Lines.{Piece, Whole, TooLong, items}
use Rattle.event_pipe.specs.declared.message.Peer.TheVariants as peers
use Rattle.event_pipe.specs.declared.reader.ReadEnd.{ReadEnd}
use Rattle.event_pipe.specs.declared.reader.ReadEnd.TheVariants as read_ends
use Rattle.event_pipe.specs.Events.{sent_by}
use Rattle.event_pipe.specs.Arrivals.{arrivals, has_close_event, line_limit, is_read_fault, Arrived}
use Rattle.program_lifecycle.specs.Streams.{TookPrefix}
use Rattle.program_lifecycle.specs.Took.{LogTook}
use Rattle.child_engine.specs.Hosts.{ShownRun, fresh_source, fresh_sink}
use Rattle.program_lifecycle.specs.declared.failures.Failures.{Failures}
use Rattle.program_lifecycle.specs.Logs.{fresh_log, closed_logs}
use Rattle.program_lifecycle.specs.Readers.{lacked_memory}
use Rattle.program_lifecycle.specs.Reporting.{EngineGave}

-- the part that was taken of nothing
pub taken_is : (o : Option (List ℕ)) (bs : List ℕ) → Appends (Some []) o bs → o ≡ Some bs
taken_is None bs a = absurd a
taken_is (Some xs) bs a = ap (λ (ys : List ℕ). Some ys) a

pub sink_took : (sinks_report : Bool) (o : Option (List ℕ)) (bs : List ℕ) → sinks_report ≡ true → Appends (fresh_sink sinks_report).taken o bs → o ≡ Some bs
sink_took false o bs e a = cc
sink_took true o bs e a = taken_is o bs a

pub log_took : (sinks_report : Bool) (n : ℕ) (log : Received) (bs : List ℕ) (ls : List (Option (List ℕ))) → sinks_report ≡ true → n ≡ 1 → ls ≡ closed_logs n log
    → Appends (fresh_log sinks_report n).taken log.taken bs → ls ≡ Some bs ∷ []
log_took sinks_report zero log bs ls e one l a = cc
log_took sinks_report (suc n) log bs ls e one l a = l ∙ ap (λ (o : Option (List ℕ)). o ∷ []) (sink_took sinks_report log.taken bs e a)

-- the log took a prefix of the text, or all of it
pub prefix_of : (text : List ℕ) (failed : Bool) (old new : Received) → LogTook text failed old new → TookPrefix text old.taken new.taken
prefix_of text true old new t = t.prefix refl
prefix_of text false old new t = record { prefix = text; rest = []; is = sym (append-nil text); took = t.whole refl }

-- an engine's lines end with its end
closes : (lines : List Piece) → has_close_event (arrivals peers.Engine lines) ≡ true
closes [] = refl
closes (Whole line ∷ lines) = closes lines
closes (TooLong ∷ lines) = closes lines

-- a source that had these bytes left
pub left_is : (bytes got : List ℕ) (left : Option (List ℕ)) → Consumes (Some bytes) left got → (rest : List ℕ) × (bytes ≡ got ++ rest) × (left ≡ Some rest)
left_is bytes got None c = absurd c
left_is bytes got (Some rest) c = (rest, c, refl)

pub none_left : (left : Option (List ℕ)) (rest : List ℕ) → left ≡ Some rest → IsAtEnd left → rest ≡ []
none_left None rest e end = cc
none_left (Some xs) rest e end = let same : rest ≡ xs = cc in same ∙ end

pub is_done : (end : ReadEnd) → is_read_fault end ≡ false → lacked_memory end ≡ false → end ≡ read_ends.Done
is_done read_ends.Done f m = refl
is_done (read_ends.Fault f) e m = cc
is_done read_ends.NoMemory f m = cc

fault_of : {P : Type 0} (end : ReadEnd) → is_read_fault end ≡ true → ((f : _) → end ≡ read_ends.Fault f → P) → P
fault_of read_ends.Done e p = cc
fault_of (read_ends.Fault f) e p = p f refl
fault_of read_ends.NoMemory e p = cc

pub gave_by : (bytes : List ℕ) (last : Supplied) (taken : Option (List ℕ)) (sent : List Event) (end : ReadEnd) (failures : Failures) → Arrived peers.Engine (fresh_source (Some bytes)) last sent end
    → failures.engine_read ≡ is_read_fault end → (failures.memory ≡ false → lacked_memory end ≡ false) → EngineGave bytes (record { given = last.given; left = last.left; taken = taken }) sent failures
gave_by bytes last taken sent end failures a r m =
    let l = left_is bytes a.got last.left a.reads.left in
    record {
      got = a.got;
      rest = l.0;
      is = l.1;
      given = taken_is last.given a.got a.reads.given;
      left = l.2;
      all = λ no_fault some_memory.
          let done = is_done end (sym r ∙ no_fault) (m some_memory) in
          let arrived = a.all done in
          (none_left last.left l.0 l.2 (a.at_end done (ap has_close_event arrived ∙ closes (items line_limit a.got))), arrived);
      at_fault = λ fault. fault_of end (sym r ∙ fault) (λ f e. a.at_fault f e);
    }

pub fresh_faults : (sinks_report : Bool) (n : ℕ) (log : Received) → log ≡ fresh_log sinks_report n → log.faults ≡ 0
fresh_faults sinks_report zero log e = ap (λ (x : Received). x.faults) e
fresh_faults sinks_report (suc n) log e = ap (λ (x : Received). x.faults) e

pub if_some : (P : List ℕ → Type 0) (o : Option (List ℕ)) → ((bytes : List ℕ) → o ≡ Some bytes → P bytes) → IfSome o P
if_some P None h = tt
if_some P (Some bytes) h = h bytes refl

pub reported_is : (run : ShownRun) (given left taken : Option (List ℕ)) → run.given ≡ given → run.left ≡ left → run.taken ≡ taken → run ≡ record { given = given; left = left; taken = taken }
reported_is run given left taken e f h =
    ap (λ (x : Option (List ℕ)). record { given = x; left = run.left; taken = run.taken }) e
    ∙ ap (λ (x : Option (List ℕ)). record { given = given; left = x; taken = run.taken }) f
    ∙ ap (λ (x : Option (List ℕ)). record { given = given; left = left; taken = x }) h

-- the arrivals of the interface, whose reader came to its end
pub arrived_is : (i j i' : Supplied) (es fs : List Event) (r : ReadEnd) → fs ≡ es → j ≡ i' → r ≡ read_ends.Done → Arrived peers.Iface i j (sent_by peers.Iface es) r
    → Arrived peers.Iface i i' (sent_by peers.Iface fs) read_ends.Done
arrived_is i j i' es fs r e f h a =
    subst (λ (x : Supplied). Arrived peers.Iface i x (sent_by peers.Iface fs) read_ends.Done) f
    (subst (λ (x : ReadEnd). Arrived peers.Iface i j (sent_by peers.Iface fs) x) h
    (subst (λ (x : List Event). Arrived peers.Iface i j (sent_by peers.Iface x) r) (sym e) a))
