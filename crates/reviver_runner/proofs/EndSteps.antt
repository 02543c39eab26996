-- The events heard of both sides, once both readers have ended.
use Rattle.std.proofs.Common.{◌≡◌, ◌∙◌, ℕ, suc, ◌≤◌, List, [], ◌∷◌, ◌++◌, map, codes, length, Bool, true, false, cond, ◌||◌, ◌&&◌, Option, Some, None, refl, sym, ap, subst, arith, append-nil, append_assoc}
use mathlib.Core.Bool.{or-false, or-true}
use Rattle.line_io.specs.Event.{Event, Iface, IfaceLong, IfaceEnd, Engine, EngineLong, EngineEnd}
use Rattle.line_io.specs.Lines.{Piece, Whole, TooLong, items}
use Rattle.line_io.specs.Runs.{whole}
use Rattle.line_io.specs.Source.{Supplied, Received}
use Rattle.protocol_tokens.specs.Quit.{is_quit}
use Rattle.engine_revival.specs.Orders.{RevivalOrder as AnyOrder}
use Rattle.engine_revival.specs.Orders as orders
use Rattle.engine_revival.specs.Asked.{order_of_line}
use Rattle.engine_revival.specs.declared.state.RevivalState.{RevivalState}
use Rattle.engine_revival.specs.declared.words.DialogueState.{DialogueState}
use Rattle.engine_revival.specs.Dialogue.{said_in}
use Rattle.engine_revival.specs.Lists.{revival_order_can_join}
use Rattle.engine_revival.specs.Steps.{opening_revival, state_once_ended, state_at_new_life, state_once_over, may_begin, state_with_kept, revival_with_value, with_button, state_if_accepted, upper_if_accepted, state_after_reading, state_after_line, with_quit, state_once_heard, state_once_settled}
use Rattle.engine_revival.specs.Calls.{Begin, Over, revival_after}
use Rattle.engine_revival.specs.Script.{AllMayHappen, revival_state_after, state_behind, texts_from}
use Rattle.engine_revival.proofs.Talks.{always_lawful}
use Rattle.event_pipe.specs.declared.message.Peer.TheVariants as peers
use Rattle.event_pipe.specs.declared.reader.ReadEnd.{ReadEnd}
use Rattle.event_pipe.specs.declared.reader.ReadEnd.TheVariants as read_ends
use Rattle.event_pipe.specs.Message.{is_last_event, event_meaning}
use Rattle.event_pipe.specs.Events.{of, has_last_event}
use Rattle.event_pipe.specs.Events.{CameFromPeer}
use Rattle.event_pipe.specs.Arrivals.{Arrived, line_limit}
use Rattle.event_pipe.proofs.Keeps.{of-append}
use Rattle.event_pipe.proofs.Reading.{any_append}
use Rattle.child_engine.specs.Hosts.{fresh_source}
use Rattle.program_lifecycle.specs.declared.offering.LoopEnd.{LoopEnd}
use Rattle.program_lifecycle.specs.Streams.{Offered}
use Rattle.reviver_runner.specs.Looped.{LoopState}
use Rattle.reviver_runner.specs.Played.{revival_lines_up, as_long, reported_of, ends_in}
use Rattle.reviver_runner.specs.Reading.{line_events, LinesOf}
use Rattle.reviver_runner.specs.Lives.{Life, AreLives, life_events, Lived, to_none, to_lives}
use Rattle.reviver_runner.specs.Ran.{RevivalHeard}
use Rattle.reviver_runner.proofs.LifeSteps.{ends_append}
use Rattle.reviver_runner.proofs.SettledSteps.{settled_quit}

-- NOTHING OF THE ENGINE IS LEFT IN THE CHANNEL

-- the last of the events is a life's end
abbrev is_long : Event → Bool
is_long EngineLong = true
is_long event = false

abbrev ends_long : List Event → Bool
ends_long [] = false
ends_long (e ∷ []) = is_long e
ends_long (e ∷ f ∷ es) = ends_long (f ∷ es)

last_right : (xs : List Event) (y : Event) (ys : List Event) → ends_long (xs ++ y ∷ ys) ≡ ends_long (y ∷ ys)
last_right [] y ys = refl
last_right (x ∷ []) y ys = refl
last_right (x ∷ z ∷ xs) y ys = last_right (z ∷ xs) y ys

last_append : (xs ys : List Event) → ends_long ys ≡ true → ends_long (xs ++ ys) ≡ true
last_append xs [] h = cc
last_append xs (y ∷ ys) h = last_right xs y ys ∙ h

last_of_lives : (l : Life) (lives : List Life) → ends_long (life_events (l ∷ lives)) ≡ true
last_of_lives l [] = ap ends_long (append-nil (l.lines ++ EngineLong ∷ [])) ∙ last_right l.lines EngineLong []
last_of_lives l (m ∷ lives) = last_append (l.lines ++ EngineLong ∷ []) (life_events (m ∷ lives)) (last_of_lives m lives)

one_long : (e : Event) → is_long e ≡ true → 1 ≤ ends_in (e ∷ [])
one_long EngineLong h = omega arith
one_long e h = cc

has_one : (es : List Event) → ends_long es ≡ true → 1 ≤ ends_in es
has_one [] h = cc
has_one (e ∷ []) h = one_long e h
has_one (e ∷ f ∷ es) h = let more = has_one (f ∷ es) h in let all = ends_append (e ∷ []) (f ∷ es) in omega (arith, more, all)

nothing_left : (sent prefix left : List Event) → sent ≡ prefix ++ left → ends_long sent ≡ true → ends_in sent ≡ ends_in prefix → left ≡ []
nothing_left sent prefix [] e h n = refl
nothing_left sent prefix (y ∷ ys) e h n =
    let one = has_one (y ∷ ys) (sym (last_right prefix y ys) ∙ ap ends_long (sym e) ∙ h) in
    let all = ap ends_in e ∙ ends_append prefix (y ∷ ys) in
    absurd (omega (arith, one, all, n))

-- the lines of a life have no mark
pieces_no_end : (pieces : List Piece) → ends_in (line_events pieces) ≡ 0
pieces_no_end [] = refl
pieces_no_end (Whole line ∷ pieces) = pieces_no_end pieces
pieces_no_end (TooLong ∷ pieces) = pieces_no_end pieces

lines_no_end : (b a : Supplied) (lines : List Event) (r : ReadEnd) → LinesOf b a lines r → ends_in lines ≡ 0
lines_no_end b a lines read_ends.Done x = ap ends_in (x.all refl) ∙ pieces_no_end (items line_limit x.got)
lines_no_end b a lines (read_ends.Fault f) x = ap ends_in (x.at_fault f refl) ∙ pieces_no_end (whole line_limit x.got)
lines_no_end b a lines read_ends.NoMemory x =
    let cut = x.cut refl in
    let all = sym (ap ends_in cut.is) ∙ pieces_no_end (items line_limit x.got) in
    let parts = ends_append lines cut.rest in
    omega (arith, all, parts)

lives_ends : (says : Option (List ℕ)) (sinks_report : Bool) (lives : List Life) → AreLives says sinks_report lives → ends_in (life_events lives) ≡ length lives
lives_ends says sinks_report [] a = refl
lives_ends says sinks_report (l ∷ lives) a =
    let none = lines_no_end (fresh_source says) l.read l.lines l.end a.0.lines in
    let own = ends_append l.lines (EngineLong ∷ []) in
    let all = ends_append (l.lines ++ EngineLong ∷ []) (life_events lives) in
    let more = lives_ends says sinks_report lives a.1 in
    omega (arith, none, own, all, more)

-- ONE SIDE

ends_of : (es : List Event) → ends_in (of 2 es) ≡ ends_in es
ends_of [] = refl
ends_of (EngineLong ∷ es) = ap suc (ends_of es)
ends_of (x ∷ es) = ends_of es

engine_marks : (es : List Event) → map as_long (of 2 es) ≡ of 2 (map as_long es)
engine_marks [] = refl
engine_marks (Engine line ∷ es) = ap (λ (l : List Event). Engine line ∷ l) (engine_marks es)
engine_marks (EngineLong ∷ es) = ap (λ (l : List Event). EngineLong ∷ l) (engine_marks es)
engine_marks (EngineEnd ∷ es) = ap (λ (l : List Event). EngineLong ∷ l) (engine_marks es)
engine_marks (x ∷ es) = engine_marks es

engine_reported : (es : List Event) → of 2 (reported_of es) ≡ of 2 es
engine_reported [] = refl
engine_reported (Engine line ∷ es) = ap (λ (l : List Event). Engine line ∷ l) (engine_reported es)
engine_reported (EngineLong ∷ es) = ap (λ (l : List Event). EngineLong ∷ l) (engine_reported es)
engine_reported (EngineEnd ∷ es) = ap (λ (l : List Event). EngineEnd ∷ l) (engine_reported es)
engine_reported (x ∷ es) = engine_reported es

iface_marks : (es : List Event) → of 1 (map as_long es) ≡ of 1 es
iface_marks [] = refl
iface_marks (Iface line ∷ es) = ap (λ (l : List Event). Iface line ∷ l) (iface_marks es)
iface_marks (IfaceLong ∷ es) = ap (λ (l : List Event). IfaceLong ∷ l) (iface_marks es)
iface_marks (IfaceEnd ∷ es) = ap (λ (l : List Event). IfaceEnd ∷ l) (iface_marks es)
iface_marks (x ∷ es) = iface_marks es

iface_reported : (es : List Event) → of 1 (reported_of es) ≡ reported_of (of 1 es)
iface_reported [] = refl
iface_reported (Iface line ∷ es) = ap (λ (l : List Event). Iface line ∷ l) (iface_reported es)
iface_reported (IfaceEnd ∷ es) = ap (λ (l : List Event). IfaceEnd ∷ l) (iface_reported es)
iface_reported (x ∷ es) = iface_reported es

pub ended_reported : (es : List Event) → has_last_event (reported_of es) ≡ has_last_event es
ended_reported [] = refl
ended_reported (Iface line ∷ es) = ap (λ (b : Bool). is_quit line || b) (ended_reported es)
ended_reported (IfaceEnd ∷ es) = refl
ended_reported (EngineEnd ∷ es) = refl
ended_reported (x ∷ es) = ended_reported es

-- NOTHING OF THE ENGINE CAME BEHIND THE LAST LIFE

lives_end_long : (ls : List Life) → 1 ≤ length ls → ends_long (life_events ls) ≡ true
lives_end_long [] h = absurd (omega (arith, h))
lives_end_long (x ∷ ls) h = last_of_lives x ls

first_none : (xs ys : List Event) → xs ++ ys ≡ [] → xs ≡ []
first_none [] ys h = refl
first_none (x ∷ xs) ys h = cc

pub nothing_came : (says : Option (List ℕ)) (sinks_report : Bool) (a b : LoopState) (sent taken got : List Event) (lives : List Life) (text : List ℕ) (refused : Bool)
    → Lived says sinks_report a b sent lives text refused → 1 ≤ length lives → taken ≡ b.events ++ got → CameFromPeer peers.Engine taken sent → of 2 got ≡ []
nothing_came says sinks_report a b sent taken got lives text refused lived some e came =
    first_none (of 2 got) came.left
    (nothing_left sent (of 2 b.events) (of 2 got ++ came.left)
    (came.prefix ∙ ap (λ (x : List Event). of 2 x ++ came.left) e ∙ ap (λ (x : List Event). x ++ came.left) (of-append event_meaning 2 b.events got) ∙ append_assoc (of 2 b.events) (of 2 got) came.left)
    (ap ends_long lived.sent_are ∙ lives_end_long lives some)
    (ap ends_in lived.sent_are ∙ lives_ends says sinks_report lives lived.lived ∙ sym lived.ends ∙ sym (ends_of b.events)))

-- THE LAST ORDER IS THE QUIT

value_quit : (b : Bool) (s : RevivalState) (order : AnyOrder) → (revival_with_value b s order).quit ≡ s.quit
value_quit true s order = refl
value_quit false s order = refl

button_quit : (b : Bool) (s : RevivalState) (order : AnyOrder) → (with_button b s order).quit ≡ s.quit
button_quit true s order = refl
button_quit false s order = refl

keeping_quit : (s : RevivalState) (order : AnyOrder) → (state_with_kept s order).quit ≡ s.quit
keeping_quit s (orders.Value name line) = value_quit (revival_order_can_join s.kept (orders.Value name line) && revival_order_can_join s.unsent (orders.Value name line)) s (orders.Value name line)
keeping_quit s (orders.Button name line) = button_quit (revival_order_can_join s.unsent (orders.Button name line)) s (orders.Button name line)
keeping_quit s order = refl

accepting_quit : (up : Option DialogueState) (s : RevivalState) (order : AnyOrder) → (state_if_accepted up s order).quit ≡ s.quit
accepting_quit None s order = refl
accepting_quit (Some up) s order = keeping_quit s order

reading_quit : (s : RevivalState) (order : Option AnyOrder) → (state_after_reading s order).quit ≡ s.quit
reading_quit s None = refl
reading_quit s (Some order) = accepting_quit (upper_if_accepted s order) s order

or_assoc : (a b c : Bool) → ((a || b) || c) ≡ (a || (b || c))
or_assoc true b c = refl
or_assoc false b c = refl

either_quit : (b : Bool) (s t : RevivalState) → t.quit ≡ s.quit → (cond b (with_quit s) t).quit ≡ (s.quit || (b || false))
either_quit true s t h = sym (or-true s.quit)
either_quit false s t h = h ∙ sym (or-false s.quit)

order_quit : (s : RevivalState) (line : List ℕ) → (state_once_settled (state_after_line s line)).quit ≡ (s.quit || (is_quit line || false))
order_quit s line = settled_quit (state_after_line s line) ∙ either_quit (is_quit line) s (state_after_reading s (order_of_line line)) (reading_quit s (order_of_line line))

over_quit : (s : RevivalState) → (revival_after s Over).quit ≡ (s.quit || false)
over_quit s = settled_quit (state_once_over s) ∙ sym (or-false s.quit)

next_quit : (b : Bool) (s : RevivalState) → (revival_after (state_once_ended s) (cond b Begin Over)).quit ≡ (s.quit || false)
next_quit true s = settled_quit (state_at_new_life (state_once_ended s)) ∙ sym (or-false s.quit)
next_quit false s = settled_quit (state_once_over (state_once_ended s)) ∙ sym (or-false s.quit)

event_quit : (s : RevivalState) (e : Event) → (revival_state_after s e).quit ≡ (s.quit || has_last_event (of 1 (e ∷ [])))
event_quit s (Iface line) = order_quit s line
event_quit s IfaceEnd = order_quit s (codes "quit")
event_quit s (Engine line) = settled_quit (state_once_heard s (said_in line)) ∙ sym (or-false s.quit)
event_quit s EngineLong = next_quit (may_begin s) s
event_quit s e = over_quit s

quit_behind : (s : RevivalState) (es : List Event) → (state_behind s es).quit ≡ (s.quit || has_last_event (of 1 es))
quit_behind s [] = sym (or-false s.quit)
quit_behind s (e ∷ es) =
    quit_behind (revival_state_after s e) es ∙ ap (λ (b : Bool). b || has_last_event (of 1 es)) (event_quit s e) ∙ or_assoc s.quit (has_last_event (of 1 (e ∷ []))) (has_last_event (of 1 es))
    ∙ ap (λ (b : Bool). s.quit || b) (sym (any_append is_last_event (of 1 (e ∷ [])) (of 1 es)) ∙ ap has_last_event (sym (of-append event_meaning 1 (e ∷ []) es)))

-- BOTH SIDES HAVE ENDED

-- the same, from the state in which the lives begin
abbrev pub opened : ℕ → LoopState → LoopState
opened number a = record { state = opening_revival number; events = a.events; output = a.output; log = a.log; failed = a.failed }

pub lived_from : (number : ℕ) (says : Option (List ℕ)) (sinks_report : Bool) (a b : LoopState) (sent : List Event) (lives : List Life) (text : List ℕ) (refused : Bool)
    → a.state ≡ opening_revival number → Lived says sinks_report a b sent lives text refused → Lived says sinks_report (opened number a) b sent lives text refused
lived_from number says sinks_report a b sent lives text refused e x =
    let es = x.events in
    record {
      events = es;
      played = record {
        may = subst (λ (z : RevivalState). AllMayHappen z es) e x.played.may;
        state_is = subst (λ (z : RevivalState). b.state ≡ state_behind z es) e x.played.state_is;
        up = subst (λ (z : RevivalState). Offered a.failed.output b.failed.output a.output b.output (revival_lines_up z es)) e x.played.up;
        marks = subst (λ (z : RevivalState). Offered a.failed.log b.failed.log a.log b.log (texts_from z es)) e x.played.marks;
      };
      given = subst (λ (z : RevivalState). to_lives to_none z es ≡ record { ended = map (λ (l : Life). l.text) lives; present = text }) e x.given;
      refusal = x.refusal;
      taken_are = x.taken_are;
      ends = x.ends;
      sent_are = x.sent_are;
      lived = x.lived;
    }

module _ (number : ℕ) (says : Option (List ℕ)) (sinks_report : Bool) (es : List Event) (o l : Received) (f : LoopEnd) (b : LoopState) (sent sent_up : List Event) (lives : List Life) (refused : Bool)
    (lived : Lived says sinks_report (record { state = opening_revival number; events = es; output = o; log = l; failed = f }) b sent lives [] refused) (up : CameFromPeer peers.Iface b.events sent_up) (engine : CameFromPeer peers.Engine b.events sent) (some : 1 ≤ length lives) (quit : b.state.quit ≡ true) where
  all_taken : sent ≡ of 2 b.events
  all_taken =
      let none = nothing_left sent (of 2 b.events) engine.left engine.prefix (ap ends_long lived.sent_are ∙ lives_end_long lives some)
      (ap ends_in lived.sent_are ∙ lives_ends says sinks_report lives lived.lived ∙ sym lived.ends ∙ sym (ends_of b.events)) in
      engine.prefix ∙ ap (λ (x : List Event). of 2 b.events ++ x) none ∙ append-nil (of 2 b.events)

  pub marks : map as_long (of 2 lived.events) ≡ life_events lives
  marks = engine_marks lived.events ∙ ap (λ (x : List Event). of 2 x) lived.taken_are ∙ engine_reported b.events ∙ sym all_taken ∙ lived.sent_are

  reported_up : of 1 lived.events ≡ reported_of (of 1 b.events)
  reported_up = sym (iface_marks lived.events) ∙ ap (λ (x : List Event). of 1 x) lived.taken_are ∙ iface_reported b.events

  over : has_last_event (of 1 b.events) ≡ true
  over = sym (ended_reported (of 1 b.events)) ∙ ap has_last_event (sym reported_up) ∙ sym (quit_behind (opening_revival number) lived.events) ∙ ap (λ (x : RevivalState). x.quit) (sym lived.played.state_is) ∙ quit

  pub orders_are : of 1 lived.events ≡ reported_of sent_up
  orders_are = reported_up ∙ ap reported_of (sym (up.prefix ∙ ap (λ (x : List Event). of 1 b.events ++ x) (up.whole over) ∙ append-nil (of 1 b.events)))

  pub heard : (input input' : Supplied) (upper : ReadEnd) → Arrived peers.Iface input input' sent_up upper → b.state.begun ≡ length lives → RevivalHeard number input input' upper lives lived.events
  heard input input' upper arrived begun = record {
    may = lived.played.may;
    lawful = always_lawful number lived.events lived.played.may;
    arrived = sent_up;
    did_arrive = arrived;
    orders = orders_are;
    marks = marks;
    texts = lived.given;
    begun = ap (λ (x : RevivalState). x.begun) (sym lived.played.state_is) ∙ begun;
  }
