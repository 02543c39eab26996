-- The loop over the lives.
use Rattle.std.proofs.Common.{◌≡◌, ◌∙◌, ℕ, suc, ◌+◌, ◌<◌, ◌≤◌, List, [], ◌∷◌, length, Bool, false, Option, Some, None, refl, sym, ap, subst, arith}
use Rattle.line_io.specs.Event.{Event}
use Rattle.line_io.specs.Source.{Supplied, Received}
use Rattle.std.proofs.lemmas.List.{length-append}
use Rattle.std.specs.VecDeque.{deque_capacity}
use Rattle.child_engine.specs.Hosts.{Ledger, with_run}
use Rattle.child_engine.specs.declared.host.Faults.{Faults}
use Rattle.child_engine.specs.declared.host.HostFault.{HostFault}
use Rattle.engine_revival.specs.declared.state.RevivalState.{RevivalState}
use Rattle.engine_revival.specs.Steps.{opening_revival}
use Rattle.event_pipe.specs.Counts.{CountsFault}
use Rattle.event_pipe.specs.Ends.{IsSender, KeepsSender}
use Rattle.reviver_runner.specs.Messages.{events_sent}
use Rattle.event_pipe.specs.declared.pipe.PipeSend.{PipeSend}
use Rattle.event_pipe.specs.Events.{has_last_event}
use Rattle.program_lifecycle.specs.Asked.{StartsEngines}
use Rattle.program_lifecycle.specs.Logs.{is_failed}
use Rattle.program_lifecycle.proofs.Asked.{starts_none, starts_both}
use Rattle.program_lifecycle.proofs.Counts.{same_reported}
use Rattle.program_lifecycle.specs.declared.offering.LoopEnd.{LoopEnd}
use Rattle.reviver_runner.specs.declared.life.LifeRun.{LifeRun}
use Rattle.reviver_runner.specs.Looped.{LoopState, KeepsLoop}
use Rattle.reviver_runner.specs.Played.{reported_of, ends_in}
use Rattle.reviver_runner.proofs.Appends.{up_none}
use Rattle.reviver_runner.proofs.HearSteps.{ready_still, keeps_same as loop_same, keeps_both as loop_both}
use Rattle.reviver_runner.specs.declared.lives.LivesTally.{LivesTally}
use Rattle.reviver_runner.specs.declared.message.LifeMessage.{LifeMessage}
use Rattle.reviver_runner.specs.declared.parts.ReviverParts.{ReviverParts}
use Rattle.reviver_runner.specs.declared.turns.NextLife.{NextLife}
use Rattle.reviver_runner.specs.declared.turns.NextLife.TheVariants as nexts
use Rattle.reviver_runner.specs.Closing.{shown_runs}
use Rattle.reviver_runner.specs.Lives.{LifeGoesOn, IsBegun, LivesGoOn, LivesOn, Continues, AreTallied, HostShown, HostGoes, Hands, is_failed_start, lives_in, empty_tally, none_failed}
use Rattle.reviver_runner.specs.Parts.{ReviverPartsAreReady, ReviverKeepsEnds}
use Rattle.reviver_runner.specs.Ran.{HandsOut, RanLives}
use Rattle.reviver_runner.proofs.LifeSteps.{goes_next, ends_over, ends_refused}

-- THE ENDS OF THE CHANNEL

pub keeps_same : {L P : Type 0} (a : ReviverParts L P) → ReviverPartsAreReady a → ReviverKeepsEnds a a
keeps_same a r = record { ready = r; sender = (r.sender, refl, refl); looping = loop_same a.looping r.looping; processes = refl }

pub keeps_both : {L P : Type 0} (a b c : ReviverParts L P) → ReviverKeepsEnds a b → ReviverKeepsEnds b c → ReviverKeepsEnds a c
keeps_both a b c x y = record {
  ready = y.ready;
  sender = (y.sender.0, y.sender.1 ∙ x.sender.1, y.sender.2 ∙ x.sender.2);
  looping = loop_both a.looping b.looping c.looping x.looping y.looping;
  processes = y.processes ∙ x.processes;
}

-- after the last life nothing is sent
pub keeps_drained : {L P : Type 0} (a b c : ReviverParts L P) → ReviverKeepsEnds a b → c.to ≡ b.to → KeepsLoop b.looping c.looping → deque_capacity c.processes ≡ deque_capacity b.processes → ReviverKeepsEnds a c
keeps_drained a b c k to looping room = record {
  ready = record {
    looping = ready_still b.looping c.looping k.ready.looping looping;
    sender = subst IsSender (sym to) k.ready.sender;
    engine = ap (λ (s : PipeSend LifeMessage). s.peer) to ∙ k.ready.engine;
    going = ap (λ (s : PipeSend LifeMessage). has_last_event (events_sent s)) to ∙ k.ready.going;
  };
  sender = subst (λ (s : PipeSend LifeMessage). KeepsSender a.to s) (sym to) k.sender;
  looping = loop_both a.looping b.looping c.looping k.looping looping;
  processes = room ∙ k.processes;
}

-- THE HOST

-- none followed, and the host was not asked
pub hands_none : (lives d d' : ℕ) (b0 b b' : Ledger) (h0 h h' : Faults) → b' ≡ b → h' ≡ h → b.runs_out ≡ d + 1 → d' ≡ d + 1 → b ≡ record b0 { runs_out = b.runs_out } → h ≡ h0 → suc d ≤ lives → HandsOut lives d' b0 b' h0 h' None
hands_none lives d d' b0 b b' h0 h h' e f out more ledger counts few =
    let all : h' ≡ h0 = f ∙ counts in
    record {
      out = ap (λ (x : Ledger). x.runs_out) e ∙ out ∙ sym more;
      some = omega (arith, more);
      few = omega (arith, more, few);
      others = subst (λ (x : Ledger). x ≡ record b0 { runs_out = x.runs_out }) (sym e) ledger;
      starts = same_reported h0.starts h'.starts (ap (λ (x : Faults). x.starts) all);
      other_counts = subst (λ (x : Faults). x ≡ record h0 { starts = x.starts }) (sym all) refl;
    }

-- none followed, since the host did not start it
pub hands_refused : (lives d d' : ℕ) (b0 b b' : Ledger) (h0 h h' : Faults) (fault : HostFault) → b' ≡ b → CountsFault h.starts h'.starts (is_failed (Some fault)) → h' ≡ record h { starts = h'.starts }
    → b.runs_out ≡ d + 1 → d' ≡ d + 1 → b ≡ record b0 { runs_out = b.runs_out } → h ≡ h0 → suc d ≤ lives → HandsOut lives d' b0 b' h0 h' (Some fault)
hands_refused lives d d' b0 b b' h0 h h' fault e t f out more ledger counts few =
    record {
      out = ap (λ (x : Ledger). x.runs_out) e ∙ out ∙ sym more;
      some = omega (arith, more);
      few = omega (arith, more, few);
      others = subst (λ (x : Ledger). x ≡ record b0 { runs_out = x.runs_out }) (sym e) ledger;
      starts = subst (λ (x : Faults). CountsFault x.starts h'.starts (is_failed (Some fault))) counts t;
      other_counts = subst (λ (x : Faults). h' ≡ record x { starts = h'.starts }) counts f;
    }

-- another one was handed out
pub one_more : (b0 b b' : Ledger) (d d' : ℕ) → b' ≡ with_run b → b.runs_out ≡ d + 1 → d' ≡ d + 1 → b ≡ record b0 { runs_out = b.runs_out } → (b'.runs_out ≡ d' + 1) × (b' ≡ record b0 { runs_out = b'.runs_out })
one_more b0 b b' d d' e out more ledger =
    let runs : b'.runs_out ≡ b.runs_out + 1 = ap (λ (x : Ledger). x.runs_out) e in
    (omega (arith, runs, out, more), subst (λ (x : Ledger). x ≡ record b0 { runs_out = x.runs_out }) (sym e) (ap (λ (x : Ledger). record x { runs_out = b.runs_out + 1 }) ledger))

pub host_first : (arguments : List (List ℕ)) (h : HostShown) (n : ℕ) → h.ledger.runs_out ≡ 1 → n ≡ 0 → HostGoes arguments h h n
host_first arguments h n out none = record { out = omega (arith, out, none); ledger = refl; counts = refl; asked = starts_none _ _ _ _ _ refl refl }

-- the words that were asked for are the same
words_as : (arguments words' : List (List ℕ)) (h h' : HostShown) (b : Bool) → words' ≡ arguments → StartsEngines words' h.asked h'.asked h.ledger h'.ledger b → StartsEngines arguments h.asked h'.asked h.ledger h'.ledger b
words_as arguments words' h h' b e x = subst (λ (w : List (List ℕ)). StartsEngines w h.asked h'.asked h.ledger h'.ledger b) e x

module _ {S K : Type 0} (arguments words' : List (List ℕ)) (h h1 h2 : HostShown) (d d' lives : ℕ) (next : NextLife S K) (same : words' ≡ arguments) (was : HostGoes arguments h h1 d) (more : d' ≡ d + 1) (few : suc d ≤ lives)
    (hands : Hands h1 h2 next) (asks : StartsEngines words' h1.asked h2.asked h1.ledger h2.ledger (is_failed_start next)) where
  pub host_next : (run : LifeRun S K) → next ≡ nexts.Life run → HostGoes arguments h h2 d'
  host_next run e =
      let handed = subst (λ (n : NextLife S K). Hands h1 h2 n) e hands in
      let one = one_more h.ledger h1.ledger h2.ledger d d' handed.0 was.out more was.ledger in
      record {
        out = one.0;
        ledger = one.1;
        counts = handed.1 ∙ was.counts;
        asked = starts_both _ _ _ _ _ _ _ _ was.asked (words_as arguments words' h1 h2 false same (subst (λ (n : NextLife S K). StartsEngines words' h1.asked h2.asked h1.ledger h2.ledger (is_failed_start n)) e asks));
      }

  pub host_over : next ≡ nexts.Over → HandsOut lives d' h.ledger h2.ledger h.counts h2.counts None
  host_over e =
      let handed = subst (λ (n : NextLife S K). Hands h1 h2 n) e hands in
      hands_none lives d d' h.ledger h1.ledger h2.ledger h.counts h1.counts h2.counts handed.0 handed.1 was.out more was.ledger was.counts few

  pub host_refused : (fault : HostFault) → next ≡ nexts.Refused fault → HandsOut lives d' h.ledger h2.ledger h.counts h2.counts (Some fault)
  host_refused fault e =
      let handed = subst (λ (n : NextLife S K). Hands h1 h2 n) e hands in
      hands_refused lives d d' h.ledger h1.ledger h2.ledger h.counts h1.counts h2.counts fault handed.0 handed.1 handed.2 was.out more was.ledger was.counts few

  pub asks_over : (b : Bool) → is_failed_start next ≡ b → StartsEngines arguments h.asked h2.asked h.ledger h2.ledger b
  asks_over b e = starts_both _ _ _ _ _ _ _ _ was.asked (words_as arguments words' h1 h2 b same (subst (λ (x : Bool). StartsEngines words' h1.asked h2.asked h1.ledger h2.ledger x) e asks))

-- BEFORE THE FIRST LIFE HAS ENDED

pub empty : {T : Type 0} (xs : List T) (n : ℕ) → n ≡ length xs → n ≡ 0 → xs ≡ []
empty [] n e z = refl
empty (x ∷ xs) n e z = absurd (omega (arith, e, z))

none_tallied : {S K : Type 0} (source : S → Supplied) (sink : K → Received) (runs : List (LifeRun S K)) (tally : LivesTally) → runs ≡ [] → tally.engine_read ≡ false → tally.engine_write ≡ false → AreTallied source sink runs tally
none_tallied source sink runs tally e r w =
    subst (λ (l : List (LifeRun _ _)). AreTallied source sink l tally) (sym e)
    (record {
      reads = subst (λ (b : Bool). CountsFault 0 0 b) (sym r) (same_reported 0 0 refl);
      writes = subst (λ (b : Bool). CountsFault 0 0 b) (sym w) (same_reported 0 0 refl);
    })

pub goes_first : {S K : Type 0} (source : S → Supplied) (sink : K → Received) (says : Option (List ℕ)) (sinks_report : Bool) (a : LoopState) (sent : List Event) (runs : List (LifeRun S K)) (tally : LivesTally) (run : LifeRun S K)
    → a.events ≡ [] → sent ≡ [] → runs ≡ [] → tally ≡ empty_tally → a.failed ≡ none_failed → IsBegun says sinks_report (source run.source) (sink run.sink) false [] → LivesGoOn source sink says sinks_report a a sent runs tally run
goes_first source sink says sinks_report a sent runs tally run t e r n z b =
    record {
      text = [];
      lived = record {
        lives = [];
        reported = ap (shown_runs source sink) r;
        tallies = record { reads = ap (λ (x : LivesTally). x.engine_read) n; writes = ap (λ (x : LivesTally). x.engine_write) n; memory = ap (λ (x : LivesTally). x.memory) n };
        tallied = none_tallied source sink runs tally r (ap (λ (x : LivesTally). x.engine_read) n) (ap (λ (x : LivesTally). x.engine_write) n);
        so_far = record {
          events = [];
          played = up_none a;
          given = refl;
          refusal = refl;
          taken_are = sym (ap reported_of t);
          ends = ap ends_in t;
          sent_are = e;
          lived = tt;
        };
      };
      begun = subst (λ (x : LoopEnd). IsBegun says sinks_report (source run.source) (sink run.sink) x.engine []) (sym z) b;
    }

pub first_goes : (s : RevivalState) (lives n : ℕ) → s ≡ opening_revival lives → 1 ≤ lives → n ≡ 0 → LifeGoesOn s n
first_goes s lives n e some none =
    subst (λ (x : RevivalState). LifeGoesOn x n) (sym e) (subst (λ (k : ℕ). LifeGoesOn (opening_revival lives) k) (sym none) (record { alive = refl; begun = refl; few = some }))

pub next_as : {S K : Type 0} (s : RevivalState) (n : ℕ) (x y : NextLife S K) → x ≡ y → Continues s n x → Continues s n y
next_as s n x y e c = subst (λ (z : NextLife _ _). Continues s n z) e c

-- there is room for what one more life is waited for by
pub room_for : (k room room0 d lives lives0 : ℕ) → k ≡ d + 1 → room ≡ room0 → 10 ≤ room0 → suc d ≤ lives → lives ≡ lives0 → lives0 ≤ 9 → k < room
room_for k room room0 d lives lives0 e f g h i j = omega (arith, e, f, g, h, i, j)

-- ONE MORE LIFE

-- a host's ledger of more runs reports as much
pub lives_as : {S K : Type 0} (source : S → Supplied) (sink : K → Received) (b0 b : Ledger) (a c : LoopState) (sent sent' : List Event) (runs runs' : List (LifeRun S K)) (tally tally' : LivesTally) (run : LifeRun S K) (next : NextLife S K) (n : ℕ)
    → b ≡ record b0 { runs_out = n } → LivesOn source sink b.says b.sinks_report a c sent sent' runs runs' tally tally' run next → LivesOn source sink b0.says b0.sinks_report a c sent sent' runs runs' tally tally' run next
lives_as source sink b0 b a c sent sent' runs runs' tally tally' run next n e x = subst (λ (y : Ledger). LivesOn source sink y.says y.sinks_report a c sent sent' runs runs' tally tally' run next) e x

-- the state after one turn of the loop, from the one before it
module _ {S K : Type 0} (source : S → Supplied) (sink : K → Received) (arguments words' : List (List ℕ)) (h h1 h2 : HostShown) (a b c : LoopState) (sent sent' : List Event) (runs runs' : List (LifeRun S K)) (tally tally' : LivesTally)
    (run : LifeRun S K) (next : NextLife S K) (d d' : ℕ)
    (same : words' ≡ arguments) (was : HostGoes arguments h h1 d) (going : LivesGoOn source sink h.ledger.says h.ledger.sinks_report a b sent runs tally run) (goes : LifeGoesOn b.state d) (lives : b.state.lives ≡ a.state.lives) (len : d ≡ length runs) (len' : d' ≡ length runs')
    (turn : LivesOn source sink h1.ledger.says h1.ledger.sinks_report b c sent sent' runs runs' tally tally' run next) (follows : Continues c.state d' next)
    (hands : Hands h1 h2 next) (asks : StartsEngines words' h1.asked h2.asked h1.ledger h2.ledger (is_failed_start next)) where
  more : d' ≡ d + 1
  more = let long = ap (λ (l : List (LifeRun S K)). length l) turn.runs_are ∙ length-append runs (turn.last ∷ []) in omega (arith, len, len', long)

  -- the processes by which the lives are waited for: one more, or none
  pub turn_process : (begun : LifeRun S K) → next ≡ nexts.Life begun → (k k' : ℕ) → k ≡ d + 1 → k' ≡ k + lives_in next → k' ≡ d' + 1
  turn_process begun e k k' one more_now = let all = more in let next_one = ap lives_in e in omega (arith, one, more_now, all, next_one)

  pub last_process : lives_in next ≡ 0 → (k k' : ℕ) → k ≡ d + 1 → k' ≡ k + lives_in next → k' ≡ d'
  last_process e k k' one more_now = let all = more in omega (arith, one, more_now, all, e)

  few : suc d ≤ a.state.lives
  few = subst (λ (n : ℕ). suc d ≤ n) lives goes.few

  lived : LivesOn source sink h.ledger.says h.ledger.sinks_report b c sent sent' runs runs' tally tally' run next
  lived = lives_as source sink h.ledger h1.ledger b c sent sent' runs runs' tally tally' run next h1.ledger.runs_out was.ledger turn

  pub turn_host : (begun : LifeRun S K) → next ≡ nexts.Life begun → HostGoes arguments h h2 d'
  turn_host begun e = host_next arguments words' h h1 h2 d d' a.state.lives next same was more few hands asks begun e

  pub turn_goes : (begun : LifeRun S K) → next ≡ nexts.Life begun → LifeGoesOn c.state d'
  turn_goes begun e = subst (λ (n : NextLife S K). Continues c.state d' n) e follows

  pub turn_going : (begun : LifeRun S K) → next ≡ nexts.Life begun → LivesGoOn source sink h.ledger.says h.ledger.sinks_report a c sent' runs' tally' begun
  turn_going begun e = goes_next source sink h.ledger.says h.ledger.sinks_report a b c sent sent' runs runs' tally tally' run next going lived begun e

  pub turn_over : next ≡ nexts.Over → RanLives source sink arguments h h2 a c sent' runs' tally' None
  turn_over e =
      let over = subst (λ (n : NextLife S K). Continues c.state d' n) e follows in
      record {
        begun = over.0 ∙ len';
        lived = ends_over source sink h.ledger.says h.ledger.sinks_report a b c sent sent' runs runs' tally tally' run next going lived e;
        handed = subst (λ (n : ℕ). HandsOut a.state.lives n h.ledger h2.ledger h.counts h2.counts None) len' (host_over arguments words' h h1 h2 d d' a.state.lives next same was more few hands asks e);
        asked = asks_over arguments words' h h1 h2 d d' a.state.lives next same was more few hands asks false (ap is_failed_start e);
      }

  pub turn_refused : (fault : HostFault) → next ≡ nexts.Refused fault → RanLives source sink arguments h h2 a c sent' runs' tally' (Some fault)
  turn_refused fault e =
      let over = subst (λ (n : NextLife S K). Continues c.state d' n) e follows in
      record {
        begun = over.0 ∙ len';
        lived = ends_refused source sink h.ledger.says h.ledger.sinks_report a b c sent sent' runs runs' tally tally' run next going lived fault e;
        handed = subst (λ (n : ℕ). HandsOut a.state.lives n h.ledger h2.ledger h.counts h2.counts (Some fault)) len' (host_refused arguments words' h h1 h2 d d' a.state.lives next same was more few hands asks fault e);
        asked = asks_over arguments words' h h1 h2 d d' a.state.lives next same was more few hands asks (is_failed (Some fault)) (ap is_failed_start e);
      }
