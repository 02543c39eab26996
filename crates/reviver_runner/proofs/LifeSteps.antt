-- One more life among those that have ended, and what is heard after the last.
use Rattle.std.proofs.Common.{◌≡◌, ◌∙◌, ℕ, ◌+◌, List, [], ◌∷◌, ◌++◌, map, length, Bool, true, false, ◌||◌, Option, refl, sym, ap, subst, arith, append-nil, append_assoc}
use Rattle.std.proofs.lemmas.List.{map-append, length-append}
use Rattle.std.proofs.lemmas.List.Elements.{filter-append}
use Rattle.std.proofs.lemmas.List.Folds.{list_any-append}
use Rattle.std.proofs.lemmas.Grind.{flat_map-append}
use Rattle.std.specs.List.{AllByRecursion, list_any}
use Rattle.std.proofs.lemmas.Bool.{or_parts}
use mathlib.Core.Bool.{or-false}
use Rattle.line_io.specs.Event.{Event, Open, Iface, IfaceEnd, Engine, EngineLong, EngineEnd}
use Rattle.line_io.specs.Source.{Supplied, Received}
use Rattle.child_engine.specs.Hosts.{fresh_source, fresh_sink}
use Rattle.child_engine.specs.declared.host.HostFault.{HostFault}
use Rattle.engine_revival.specs.declared.state.RevivalState.{RevivalState}
use Rattle.engine_revival.specs.Script.{revival_state_after, state_behind}
use Rattle.event_pipe.specs.Events.{of}
use Rattle.event_pipe.specs.Arrivals.{is_read_fault}
use Rattle.event_pipe.specs.declared.reader.ReadEnd.{ReadEnd}
use Rattle.program_lifecycle.specs.Readers.{lacked_memory}
use Rattle.program_lifecycle.specs.Streams.{Offered}
use Rattle.reviver_runner.specs.declared.life.LifeRun.{LifeRun}
use Rattle.reviver_runner.specs.declared.lives.LivesTally.{LivesTally}
use Rattle.reviver_runner.specs.declared.turns.NextLife.{NextLife}
use Rattle.reviver_runner.specs.declared.turns.NextLife.TheVariants as nexts
use Rattle.reviver_runner.specs.Played.{event_child, lines_to_child, events_for_revival, is_life_end_mark, has_close, is_refusal, has_refusal, as_long, is_heard_order, reported_of, ends_in}
use Rattle.reviver_runner.specs.Looped.{LoopState, LoopedLife}
use Rattle.reviver_runner.specs.Reading.{ReadLife, LinesOf}
use Rattle.reviver_runner.specs.Lives.{AreTallied, LifeFollows, Life, IsLife, life_events, ToLives, to_none, to_next, to_lives, Lived, HasLived, LivesGoOn, LivesOn, life_end_mark, is_refused, IsNextLife, Ended}
use Rattle.reviver_runner.specs.Closing.{shown_runs}
use Rattle.reviver_runner.specs.Drained.{InterfaceDrained}
use Rattle.reviver_runner.proofs.Appends.{offered_both, took, up_both}
use Rattle.reviver_runner.proofs.Stays.{events_stay}
use Rattle.reviver_runner.proofs.CountSteps.{tallied_more}

-- MORE EVENTS

to_append : (to : ToLives) (s : RevivalState) (es fs : List Event) → to_lives to s (es ++ fs) ≡ to_lives (to_lives to s es) (state_behind s es) fs
to_append to s [] fs = refl
to_append to s (e ∷ es) fs = to_append (to_next (is_life_end_mark e) to (event_child s e)) (revival_state_after s e) es fs

-- WITHOUT A MARK

pub no_mark_heard : (es : List Event) → has_close (events_for_revival es) ≡ false
no_mark_heard [] = refl
no_mark_heard (Open ∷ es) = no_mark_heard es
no_mark_heard (x ∷ es) = no_mark_heard es

-- where there is no mark, what is heard is what is told
pub heard_reported : (es : List Event) → has_close es ≡ false → map as_long (events_for_revival es) ≡ reported_of es
heard_reported [] h = refl
heard_reported (Iface line ∷ es) h = ap (λ (l : List Event). Iface line ∷ l) (heard_reported es h)
heard_reported (IfaceEnd ∷ es) h = ap (λ (l : List Event). IfaceEnd ∷ l) (heard_reported es h)
heard_reported (Engine line ∷ es) h = ap (λ (l : List Event). Engine line ∷ l) (heard_reported es h)
heard_reported (EngineLong ∷ es) h = cc
heard_reported (EngineEnd ∷ es) h = cc
heard_reported (x ∷ es) h = heard_reported es h

pub no_ends : (es : List Event) → has_close es ≡ false → ends_in es ≡ 0
no_ends [] h = refl
no_ends (EngineLong ∷ es) h = cc
no_ends (EngineEnd ∷ es) h = cc
no_ends (x ∷ es) h = no_ends es h

no_refusal : (es : List Event) → has_close es ≡ false → has_refusal es ≡ false
no_refusal [] h = refl
no_refusal (EngineLong ∷ es) h = cc
no_refusal (EngineEnd ∷ es) h = cc
no_refusal (x ∷ es) h = no_refusal es h

pub ends_append : (es fs : List Event) → ends_in (es ++ fs) ≡ ends_in es + ends_in fs
ends_append [] fs = omega arith
ends_append (EngineLong ∷ es) fs = let more = ends_append es fs in omega (arith, more)
ends_append (x ∷ es) fs = ends_append es fs

-- the text to the present life
more_text : (ended : List (List ℕ)) (a b c d : List ℕ) → d ≡ b ++ c → ◌≡◌ {A = ToLives} (record { ended = ended; present = (a ++ b) ++ c }) (record { ended = ended; present = a ++ d })
more_text ended a b c d h = ap (λ (l : List ℕ). record { ended = ended; present = l }) (append_assoc a b c ∙ ap (λ (l : List ℕ). a ++ l) (sym h))

one_text : (b : Bool) (to : ToLives) (s : RevivalState) (e : Event) (es : List Event) → is_life_end_mark e ≡ b → b ≡ false
    → to_lives (to_next false to (event_child s e)) (revival_state_after s e) es ≡ record { ended = to.ended; present = (to.present ++ event_child s e) ++ lines_to_child (revival_state_after s e) es }
    → to_lives to s (e ∷ es) ≡ record { ended = to.ended; present = to.present ++ (event_child s e ++ lines_to_child (revival_state_after s e) es) }
one_text true to s e es h f x = cc
one_text false to s e es h f x =
    ap (λ (k : Bool). to_lives (to_next k to (event_child s e)) (revival_state_after s e) es) h ∙ x ∙ more_text to.ended to.present (event_child s e) (lines_to_child (revival_state_after s e) es) _ refl

none_text : (to : ToLives) → to ≡ record { ended = to.ended; present = to.present ++ [] }
none_text to = ap (λ (l : List ℕ). record { ended = to.ended; present = l }) (sym (append-nil to.present))

pub present_text : (to : ToLives) (s : RevivalState) (es : List Event) → has_close es ≡ false → to_lives to s es ≡ record { ended = to.ended; present = to.present ++ lines_to_child s es }
present_text to s [] h = none_text to
present_text to s (e ∷ es) h =
    one_text (is_life_end_mark e) to s e es refl (or_parts (is_life_end_mark e) (has_close es) h).0 (present_text (to_next false to (event_child s e)) (revival_state_after s e) es (or_parts (is_life_end_mark e) (has_close es) h).1)

-- LISTS WITH ONE MORE

all_append : {X : Type 0} (P : X → Type 0) (xs : List X) (x : X) → AllByRecursion P xs → P x → AllByRecursion P (xs ++ x ∷ [])
all_append P [] x a p = (p, tt)
all_append P (y ∷ xs) x a p = (a.0, all_append P xs x a.1 p)

or_false : (a b : Bool) → (a || (b || false)) ≡ (a || b)
or_false true b = refl
or_false false true = refl
or_false false false = refl

any_last : (p : Life → Bool) (xs : List Life) (x : Life) → list_any p (xs ++ x ∷ []) ≡ (list_any p xs || p x)
any_last p xs x = list_any-append p xs (x ∷ []) ∙ or_false (list_any p xs) (p x)

mark_long : {S K : Type 0} (next : NextLife S K) → as_long (life_end_mark next) ≡ EngineLong
mark_long (nexts.Life run) = refl
mark_long nexts.Over = refl
mark_long (nexts.Refused fault) = refl

mark_closes : {S K : Type 0} (next : NextLife S K) → is_life_end_mark (life_end_mark next) ≡ true
mark_closes (nexts.Life run) = refl
mark_closes nexts.Over = refl
mark_closes (nexts.Refused fault) = refl

mark_refuses : {S K : Type 0} (next : NextLife S K) → has_refusal (life_end_mark next ∷ []) ≡ is_refused next
mark_refuses (nexts.Life run) = refl
mark_refuses nexts.Over = refl
mark_refuses (nexts.Refused fault) = refl

-- WHAT WAS HEARD OF A LIFE

pub got_reported : {S K : Type 0} (es : List Event) (next : NextLife S K) → has_close es ≡ false → map as_long (events_for_revival es ++ life_end_mark next ∷ []) ≡ reported_of (es ++ EngineLong ∷ [])
got_reported es next h =
    map-append as_long (events_for_revival es) (life_end_mark next ∷ []) ∙ ap (λ (l : List Event). l ++ as_long (life_end_mark next) ∷ []) (heard_reported es h)
    ∙ ap (λ (e : Event). reported_of es ++ e ∷ []) (mark_long next) ∙ sym (filter-append is_heard_order es (EngineLong ∷ []))

pub got_one : (es : List Event) → has_close es ≡ false → ends_in (es ++ EngineLong ∷ []) ≡ 1
got_one es h = let none = no_ends es h in let more = ends_append es (EngineLong ∷ []) in omega (arith, none, more)

next_from : {S K : Type 0} (source : S → Supplied) (sink : K → Received) (says : Option (List ℕ)) (sinks_report : Bool) (a b : LoopState) (next : NextLife S K) (z : RevivalState) → a.state ≡ z → Ended source sink says sinks_report a b next
    → IsNextLife source sink says sinks_report (event_child z (life_end_mark next)) next b.failed.engine
next_from source sink says sinks_report a b next z e x = subst (λ (y : RevivalState). IsNextLife source sink says sinks_report (event_child y (life_end_mark next)) next b.failed.engine) e x.next_is

pub follows_lives : {S K : Type 0} (s s' : RevivalState) (x : NextLife S K) → LifeFollows s s' x → s'.lives ≡ s.lives
follows_lives s s' (nexts.Life run) h = h.2
follows_lives s s' nexts.Over h = h.0
follows_lives s s' (nexts.Refused fault) h = h.0

-- a life, and what follows of its end
module _ {S K : Type 0} (source : S → Supplied) (sink : K → Received) (says : Option (List ℕ)) (sinks_report : Bool) (a b c : LoopState) (sent sent' : List Event) (runs runs' : List (LifeRun S K)) (tally tally' : LivesTally)
    (run last : LifeRun S K) (next : NextLife S K) (end : ReadEnd)
    (looped : LoopedLife a b (sink run.sink) (sink last.sink)) (over : Ended source sink says sinks_report b c next) (read : ReadLife (source run.source) (source last.source) sent sent' end) where
  lives_stay : c.state.lives ≡ a.state.lives
  lives_stay = follows_lives b.state c.state next over.follows ∙ ap (λ (y : RevivalState). y.lives) looped.played.up.state_is ∙ (events_stay a.state looped.events).lives

  pub lives_on : runs' ≡ runs ++ last ∷ [] → tally'.engine_read ≡ (tally.engine_read || is_read_fault end) → tally'.engine_write ≡ (tally.engine_write || b.failed.engine) → tally'.memory ≡ (tally.memory || lacked_memory end)
      → LivesOn source sink says sinks_report a c sent sent' runs runs' tally tally' run next
  lives_on more reads writes memory = record {
    events = events_for_revival looped.events;
    unended = no_mark_heard looped.events;
    played = up_both a b c (events_for_revival looped.events) (life_end_mark next ∷ []) looped.played.up over.played;
    got = looped.events ++ EngineLong ∷ [];
    taken_is = over.same ∙ looped.taken_is;
    got_are = got_reported looped.events next looped.unended;
    ends = got_one looped.events looped.unended;
    last = last;
    runs_are = more;
    lines = read.lines;
    end = end;
    sent_is = read.sent_is;
    read = read.read;
    broken = b.failed.engine;
    offered = looped.played.child;
    reads = reads;
    writes = writes;
    memory = memory;
    lives = lives_stay;
    next_is = next_from source sink says sinks_report b c next (state_behind a.state (events_for_revival looped.events)) looped.played.up.state_is over;
  }

-- ONE MORE LIFE

module _ {S K : Type 0} (source : S → Supplied) (sink : K → Received) (says : Option (List ℕ)) (sinks_report : Bool) (a b c : LoopState) (sent sent' : List Event) (runs runs' : List (LifeRun S K)) (tally tally' : LivesTally)
    (run : LifeRun S K) (next : NextLife S K)
    (goes : LivesGoOn source sink says sinks_report a b sent runs tally run) (more : LivesOn source sink says sinks_report b c sent sent' runs runs' tally tally' run next) where
  abbrev pub text : List ℕ
  text = goes.text ++ lines_to_child b.state more.events

  abbrev pub life_now : Life
  life_now = record {
    read = source more.last.source;
    written = sink more.last.sink;
    lines = more.lines;
    text = text;
    end = more.end;
    broken = more.broken;
  }

  offered_all : Offered false more.broken (fresh_sink sinks_report) (sink more.last.sink) text
  offered_all = offered_both false b.failed.engine more.broken _ _ _ goes.text (lines_to_child b.state more.events) goes.begun.offered more.offered

  lines_now : LinesOf (fresh_source says) (source more.last.source) more.lines more.end
  lines_now = subst (λ (x : Supplied). LinesOf x (source more.last.source) more.lines more.end) goes.begun.unread more.read

  is_life : IsLife says sinks_report life_now
  is_life = record { lines = lines_now; text = took more.broken (fresh_sink sinks_report) (sink more.last.sink) text offered_all }

  abbrev pub lives : List Life
  lives = goes.lived.lives

  abbrev pub so_far : Lived says sinks_report a b sent goes.lived.lives goes.text false
  so_far = goes.lived.so_far

  abbrev pub events' : List Event
  events' = more.events ++ life_end_mark next ∷ []

  abbrev pub next_text : List ℕ
  next_text = event_child (state_behind b.state more.events) (life_end_mark next)

  abbrev pub to_now : ToLives
  to_now = record { ended = map (λ (x : Life). x.text) lives; present = goes.text }

  given_next : to_lives to_none a.state (so_far.events ++ events') ≡ record { ended = map (λ (x : Life). x.text) (lives ++ life_now ∷ []); present = next_text }
  given_next =
      to_append to_none a.state so_far.events events'
      ∙ ap (λ (to : ToLives). to_lives to (state_behind a.state so_far.events) events') so_far.given
      ∙ ap (λ (x : RevivalState). to_lives to_now x events') (sym so_far.played.state_is)
      ∙ to_append to_now b.state more.events (life_end_mark next ∷ [])
      ∙ ap (λ (to : ToLives). to_lives to (state_behind b.state more.events) (life_end_mark next ∷ [])) (present_text to_now b.state more.events more.unended)
      ∙ ap (λ (x : Bool). to_next x (record { ended = map (λ (x : Life). x.text) lives; present = text }) next_text) (mark_closes next)
      ∙ ap (λ (ts : List (List ℕ)). record { ended = ts; present = next_text }) (sym (map-append (λ (x : Life). x.text) lives (life_now ∷ [])))

  refusal_next : has_refusal (so_far.events ++ events') ≡ is_refused next
  refusal_next =
      list_any-append is_refusal so_far.events events' ∙ ap (λ (x : Bool). x || has_refusal events') so_far.refusal
      ∙ list_any-append is_refusal more.events (life_end_mark next ∷ []) ∙ ap (λ (x : Bool). x || has_refusal (life_end_mark next ∷ [])) (no_refusal more.events more.unended)
      ∙ mark_refuses next

  taken_next : map as_long (so_far.events ++ events') ≡ reported_of c.events
  taken_next =
      map-append as_long so_far.events events' ∙ ap (λ (x : List Event). x ++ map as_long events') so_far.taken_are ∙ ap (λ (x : List Event). reported_of b.events ++ x) more.got_are
      ∙ sym (filter-append is_heard_order b.events more.got) ∙ ap reported_of (sym more.taken_is)

  ends_next : ends_in c.events ≡ length (lives ++ life_now ∷ [])
  ends_next =
      let all = ap ends_in more.taken_is ∙ ends_append b.events more.got in
      let was = so_far.ends in
      let one = more.ends in
      let long = length-append lives (life_now ∷ []) in
      omega (arith, all, was, one, long)

  sent_next : sent' ≡ life_events (lives ++ life_now ∷ [])
  sent_next =
      more.sent_is ∙ ap (λ (x : List Event). x ++ (more.lines ++ EngineLong ∷ [])) so_far.sent_are
      ∙ ap (λ (x : List Event). life_events lives ++ x) (sym (append-nil (more.lines ++ EngineLong ∷ [])))
      ∙ sym (flat_map-append (λ (x : Life). x.lines ++ EngineLong ∷ []) lives (life_now ∷ []))

  lived_next : Lived says sinks_report a c sent' (lives ++ life_now ∷ []) next_text (is_refused next)
  lived_next = record {
    events = so_far.events ++ events';
    played = up_both a b c so_far.events events' so_far.played more.played;
    given = given_next;
    refusal = refusal_next;
    taken_are = taken_next;
    ends = ends_next;
    sent_are = sent_next;
    lived = all_append (IsLife says sinks_report) lives life_now so_far.lived is_life;
  }

  tallied_next : AreTallied source sink runs' tally'
  tallied_next = tallied_more source sink runs runs' more.last tally tally' (is_read_fault more.end) more.broken more.runs_are lines_now.count (offered_all.count refl) more.reads more.writes goes.lived.tallied

  pub has_lived_next : HasLived source sink says sinks_report a c sent' runs' tally' next_text (is_refused next)
  has_lived_next = record {
    lives = lives ++ life_now ∷ [];
    reported =
        ap (shown_runs source sink) more.runs_are ∙ map-append _ runs (more.last ∷ [])
        ∙ ap (λ (x : List _). x ++ shown_runs source sink (more.last ∷ [])) goes.lived.reported ∙ sym (map-append _ lives (life_now ∷ []));
    tallies = record {
      reads = more.reads ∙ ap (λ (x : Bool). x || is_read_fault more.end) goes.lived.tallies.reads ∙ sym (any_last (λ (x : Life). is_read_fault x.end) lives life_now);
      writes = more.writes ∙ ap (λ (x : Bool). x || more.broken) goes.lived.tallies.writes ∙ sym (any_last (λ (x : Life). x.broken) lives life_now);
      memory = more.memory ∙ ap (λ (x : Bool). x || lacked_memory more.end) goes.lived.tallies.memory ∙ sym (any_last (λ (x : Life). lacked_memory x.end) lives life_now);
    };
    tallied = tallied_next;
    so_far = lived_next;
  }

  pub goes_next : (begun : LifeRun S K) → next ≡ nexts.Life begun → LivesGoOn source sink says sinks_report a c sent' runs' tally' begun
  goes_next begun e = record {
    text = next_text;
    lived = subst (λ (x : Bool). HasLived source sink says sinks_report a c sent' runs' tally' next_text x) (ap is_refused e) has_lived_next;
    begun = subst (λ (n : NextLife S K). IsNextLife source sink says sinks_report next_text n c.failed.engine) e more.next_is;
  }

  is_over : next_text ≡ [] → (refused : Bool) → is_refused next ≡ refused → HasLived source sink says sinks_report a c sent' runs' tally' [] refused
  is_over z refused e =
      subst (λ (t : List ℕ). HasLived source sink says sinks_report a c sent' runs' tally' t refused) z
      (subst (λ (x : Bool). HasLived source sink says sinks_report a c sent' runs' tally' next_text x) e has_lived_next)

  pub ends_over : next ≡ nexts.Over → HasLived source sink says sinks_report a c sent' runs' tally' [] false
  ends_over e = is_over (subst (λ (n : NextLife S K). IsNextLife source sink says sinks_report next_text n c.failed.engine) e more.next_is) false (ap is_refused e)

  pub ends_refused : (fault : HostFault) → next ≡ nexts.Refused fault → HasLived source sink says sinks_report a c sent' runs' tally' [] true
  ends_refused fault e = is_over (subst (λ (n : NextLife S K). IsNextLife source sink says sinks_report next_text n c.failed.engine) e more.next_is) true (ap is_refused e)

-- BEHIND THE LAST LIFE

-- if nothing of the engine came
only_iface : (es : List Event) → of 2 es ≡ [] → reported_of (of 1 es) ≡ reported_of es
only_iface [] h = refl
only_iface (Iface line ∷ es) h = ap (λ (l : List Event). Iface line ∷ l) (only_iface es h)
only_iface (IfaceEnd ∷ es) h = ap (λ (l : List Event). IfaceEnd ∷ l) (only_iface es h)
only_iface (Engine line ∷ es) h = cc
only_iface (EngineLong ∷ es) h = cc
only_iface (EngineEnd ∷ es) h = cc
only_iface (x ∷ es) h = only_iface es h

none_ended : (es : List Event) → of 2 es ≡ [] → ends_in es ≡ 0
none_ended [] h = refl
none_ended (Engine line ∷ es) h = cc
none_ended (EngineLong ∷ es) h = cc
none_ended (EngineEnd ∷ es) h = cc
none_ended (x ∷ es) h = none_ended es h

pub lived_drained : (says : Option (List ℕ)) (sinks_report : Bool) (a b c : LoopState) (sent : List Event) (lives : List Life) (refused : Bool)
    → Lived says sinks_report a b sent lives [] refused → (d : InterfaceDrained b c) → of 2 d.got ≡ [] → Lived says sinks_report a c sent lives [] refused
lived_drained says sinks_report a b c sent lives refused was d none =
    let to : ToLives = record { ended = map (λ (x : Life). x.text) lives; present = [] } in
    record {
      events = was.events ++ d.events;
      played = up_both a b c was.events d.events was.played d.played;
      given =
          to_append to_none a.state was.events d.events ∙ ap (λ (t : ToLives). to_lives t (state_behind a.state was.events) d.events) was.given
          ∙ ap (λ (z : RevivalState). to_lives to z d.events) (sym was.played.state_is) ∙ present_text to b.state d.events d.open_ended
          ∙ ap (λ (t : List ℕ). record { ended = map (λ (x : Life). x.text) lives; present = t }) d.unwritten;
      refusal =
          list_any-append is_refusal was.events d.events ∙ ap (λ (x : Bool). has_refusal was.events || x) (no_refusal d.events d.open_ended)
          ∙ ap (λ (x : Bool). x || false) was.refusal ∙ or-false refused;
      taken_are =
          map-append as_long was.events d.events ∙ ap (λ (z : List Event). z ++ map as_long d.events) was.taken_are ∙ ap (λ (z : List Event). reported_of b.events ++ z) (d.got_are ∙ only_iface d.got none)
          ∙ sym (filter-append is_heard_order b.events d.got) ∙ ap reported_of (sym d.taken_is);
      ends = let all = ap ends_in d.taken_is ∙ ends_append b.events d.got in let before = was.ends in let no_end = none_ended d.got none in omega (arith, all, before, no_end);
      sent_are = was.sent_are;
      lived = was.lived;
    }
