-- The text written for events is a script, and its events are these.
use Rattle.std.proofs.Common.{◌≡◌, ◌≤◌, ◌&&◌, ℕ, zero, suc, codes, List, [], ◌∷◌, ◌++◌, map, length, filter, cond, Bool, true, false, not, Option, Some, None, refl, sym, ap, subst, ◌∙◌, arith, append_assoc, if◌then◌else◌}
use Rattle.std.specs.Prelude.{nat_le}
use Rattle.std.specs.List.{AllByRecursion, flat_map}
use Rattle.std.proofs.lemmas.Bool.Decides.{nat_tests}
use Rattle.std.proofs.lemmas.List.Concat.{flat_map-append}
use Rattle.std.proofs.lemmas.Bool.{and_parts}
use Rattle.line_io.specs.Event.{Event, Iface, IfaceEnd, Engine, EngineLong, has_feed, is_line}
use Rattle.line_io.specs.Lines.{parts_by_feed}
use Rattle.script_lines.specs.Marks.{Mark, Happens, ToIface, ToEngine, IsMarkSpelled, event_marked, is_written, line_marked, mark_line}
use Rattle.script_lines.specs.Scripts.{MarksAreSpelled, script_of}
use Rattle.script_lines.specs.StepText.{lines_marked, marks_of_written}
use Rattle.script_lines.proofs.Scripts.{parts_line}
use Rattle.protocol_tokens.specs.Quit.{is_quit}
use Rattle.engine_revival.specs.Orders.{RevivalOrder as AnyOrder, NewGame, revival_order_text}
use Rattle.engine_revival.specs.Orders as orders
use Rattle.protocol_tokens.specs.Tokens.{trimmed}
use Rattle.engine_revival.specs.Asked.{order_of_line, revival_order_in}
use Rattle.engine_revival.proofs.Asked.{asked_text, trimmed_line}
use Rattle.engine_revival.specs.declared.state.RevivalState.{RevivalState}
use Rattle.engine_revival.specs.declared.words.StandInAnswer.{StandInAnswer}
use Rattle.engine_revival.specs.declared.words.StandInAnswer.TheVariants as answers
use Rattle.engine_revival.specs.declared.words.DialogueState.{DialogueState}
use Rattle.engine_revival.specs.declared.words.DueOrders.{DueOrders}
use Rattle.engine_revival.specs.declared.words.DueOrders.TheVariants as due
use Rattle.engine_revival.specs.declared.words.LifeState.{LifeState}
use Rattle.engine_revival.specs.Dialogue.{is_before, said_in}
use Rattle.engine_revival.specs.Lists.{are_for_same, revival_batch_text, revival_order_can_join, revival_orders_staying, revival_list_with}
use Rattle.engine_revival.specs.Steps.{upper_if_accepted, accepted_at_once, state_if_accepted, after_answer, after_due, answer_of, stand_in_text, due_of, due_orders, readies, readyoks, gives, is_served, state_with_kept, may_begin, opening_revival, quit_to, read_at_once, state_after_reading, settled_orders, takes_at_once, with_button, with_quit, revival_with_value}
use Rattle.engine_revival.specs.Calls.{RevivalCall, Order, Heard, Ended, Begin, Over, revival_after, child_of, first_orders, orders_to_life, state_after_call, up_of}
use Rattle.engine_revival.specs.Script.{call_of_event, revival_state_after, state_before, texts_from}

-- ORDERS WHOSE MARKS ARE LINES OF SCRIPTS

abbrev pub CanMark : AnyOrder → Type 0
CanMark order = is_written (revival_order_text order) ≡ true

abbrev pub AllMark : List AnyOrder → Type 0
AllMark list = AllByRecursion CanMark list

all_mark : (a b : List AnyOrder) → AllMark a → AllMark b → AllMark (a ++ b)
all_mark [] b h k = k
all_mark (c ∷ cs) b h k = (h.0, all_mark cs b h.1 k)

stay_step : (w : Bool) (c : AnyOrder) (cs : List AnyOrder) → CanMark c → AllMark cs → AllMark (cond w (c ∷ cs) cs)
stay_step true c cs h k = (h, k)
stay_step false c cs h k = k

stay_mark : (test : AnyOrder → Bool) (cs : List AnyOrder) → AllMark cs → AllMark (filter test cs)
stay_mark test [] h = tt
stay_mark test (c ∷ cs) h = stay_step (test c) c (filter test cs) h.0 (stay_mark test cs h.1)

with_mark : (list : List AnyOrder) (c : AnyOrder) → AllMark list → CanMark c → AllMark (revival_list_with list c)
with_mark list c h k = all_mark (revival_orders_staying c list) (c ∷ []) (stay_mark (λ (o : AnyOrder). not (are_for_same c o)) list h) (k, tt)

quit_mark : CanMark orders.Quit
unfolding revival_order_text
quit_mark = refl

uci_mark : CanMark orders.Uci
unfolding revival_order_text
uci_mark = refl

ready_mark : CanMark orders.IsReady
unfolding revival_order_text
ready_mark = refl

-- a line that came can be written
longer : (n : ℕ) → nat_le n 65536 ≡ true → nat_le n 131070 ≡ true
longer n h = let l : n ≤ 65536 = grind (arith, nat_tests) in grind (arith, nat_tests)

pub line_written : (line : List ℕ) → is_line line ≡ true → is_written line ≡ true
line_written line h =
    let p = and_parts (nat_le (length line) 65536) (not (has_feed line)) h in
    ap (λ b. b && not (has_feed line)) (longer (length line) p.0) ∙ p.1

came : (line : List ℕ) (c : AnyOrder) → is_line line ≡ true → revival_order_in line ≡ Some c → CanMark c
came line c h e = ap (λ (t : List ℕ). is_written t) (sym (asked_text line c e)) ∙ line_written line h

-- THE STATES

pub record HasMarks (s : RevivalState) : Type 0 where
  pub kept : AllMark s.kept
  pub unsent : AllMark s.unsent
  pub search : AllMark s.search

value_marks : (w : Bool) (s : RevivalState) (c : AnyOrder) → CanMark c → HasMarks s → HasMarks (revival_with_value w s c)
value_marks true s c k h = record { kept = with_mark s.kept c h.kept k; unsent = with_mark s.unsent c h.unsent k; search = h.search }
value_marks false s c k h = record { kept = h.kept; unsent = h.unsent; search = h.search }

button_marks : (w : Bool) (s : RevivalState) (c : AnyOrder) → CanMark c → HasMarks s → HasMarks (with_button w s c)
button_marks true s c k h = record { kept = h.kept; unsent = with_mark s.unsent c h.unsent k; search = h.search }
button_marks false s c k h = record { kept = h.kept; unsent = h.unsent; search = h.search }

search_marks : (s : RevivalState) (c : AnyOrder) → CanMark c → HasMarks s → HasMarks (record s { search = s.search ++ c ∷ [] })
search_marks s c k h = record { kept = h.kept; unsent = h.unsent; search = all_mark s.search (c ∷ []) h.search (k, tt) }

keeping_marks : (s : RevivalState) (c : AnyOrder) → CanMark c → HasMarks s → HasMarks (state_with_kept s c)
keeping_marks s (orders.Value name line) k h =
    value_marks (revival_order_can_join s.kept (orders.Value name line) && revival_order_can_join s.unsent (orders.Value name line)) s (orders.Value name line) k h
keeping_marks s (orders.Button name line) k h = button_marks (revival_order_can_join s.unsent (orders.Button name line)) s (orders.Button name line) k h
keeping_marks s orders.NewGame k h = record { kept = h.kept; unsent = with_mark s.unsent NewGame h.unsent k; search = h.search }
keeping_marks s (orders.Position line) k h = record { kept = h.kept; unsent = h.unsent; search = (k, tt) }
keeping_marks s orders.Uci k h = h
keeping_marks s orders.IsReady k h = record { kept = h.kept; unsent = h.unsent; search = h.search }
keeping_marks s orders.Quit k h = h
keeping_marks s c k h = search_marks s c k h

accepting_marks : (w : Option DialogueState) (s : RevivalState) (c : AnyOrder) → CanMark c → HasMarks s → HasMarks (state_if_accepted w s c)
accepting_marks None s c k h = h
accepting_marks (Some up) s c k h = let m = keeping_marks s c k h in record { kept = m.kept; unsent = m.unsent; search = m.search }

reading_marks : (s : RevivalState) (line : List ℕ) (o : Option AnyOrder) → revival_order_in line ≡ o → is_line line ≡ true → HasMarks s → HasMarks (state_after_reading s o)
reading_marks s line None e l h = h
reading_marks s line (Some c) e l h = accepting_marks (upper_if_accepted s c) s c (came line c l e) h

ordering_by : (w : Bool) (s : RevivalState) (line : List ℕ) → is_line line ≡ true → HasMarks s → HasMarks (if w then with_quit s else state_after_reading s (order_of_line line))
ordering_by true s line l h = record { kept = h.kept; unsent = h.unsent; search = h.search }
ordering_by false s line l h = reading_marks s (trimmed line) (order_of_line line) refl (trimmed_line line l) h

-- a call whose line is one that a peer may send
abbrev pub IsProperCall : RevivalCall → Type 0
IsProperCall (Order line) = is_line line ≡ true
IsProperCall (Heard line) = is_line line ≡ true
IsProperCall call = Unit {0}

turned_marks : (s : RevivalState) (call : RevivalCall) → IsProperCall call → HasMarks s → HasMarks (state_after_call s call)
turned_marks s (Order line) l h = ordering_by (is_quit line) s line l h
turned_marks s (Heard line) l h = record { kept = h.kept; unsent = h.unsent; search = h.search }
turned_marks s Ended l h = record { kept = h.kept; unsent = h.unsent; search = h.search }
turned_marks s Begin l h = record { kept = h.kept; unsent = h.kept; search = h.search }
turned_marks s Over l h = record { kept = h.kept; unsent = h.unsent; search = h.search }

due_marks : (d : DueOrders) (s : RevivalState) → HasMarks s → HasMarks (after_due d s)
due_marks due.Nothing s h = h
due_marks due.Settings s h = record { kept = h.kept; unsent = tt; search = h.search }
due_marks due.Search s h = record { kept = h.kept; unsent = tt; search = h.search }

answer_marks : (a : StandInAnswer) (s : RevivalState) → HasMarks s → HasMarks (after_answer a s)
answer_marks answers.Nothing s h = h
answer_marks answers.UciOk s h = record { kept = h.kept; unsent = h.unsent; search = h.search }
answer_marks answers.ReadyOk s h = record { kept = h.kept; unsent = h.unsent; search = h.search }
answer_marks answers.NoMove s h = record { kept = h.kept; unsent = h.unsent; search = h.search }

after_marks : (s : RevivalState) (call : RevivalCall) → IsProperCall call → HasMarks s → HasMarks (revival_after s call)
after_marks s call l h = let t = state_after_call s call in answer_marks (answer_of t) (after_due (due_of t) t) (due_marks (due_of t) t (turned_marks s call l h))

-- THE ORDERS OF A CALL

mark_if : (w : Bool) (c : AnyOrder) → CanMark c → AllMark (if w then c ∷ [] else [])
mark_if true c k = (k, tt)
mark_if false c k = tt

accepted_mark : (w : Option DialogueState) (life : LifeState) (c : AnyOrder) → CanMark c → AllMark (accepted_at_once w life c)
accepted_mark None life c k = tt
accepted_mark (Some up) life c k = mark_if (takes_at_once life c) c k

read_mark : (s : RevivalState) (line : List ℕ) (o : Option AnyOrder) → revival_order_in line ≡ o → is_line line ≡ true → AllMark (read_at_once s o)
read_mark s line None e l = tt
read_mark s line (Some c) e l = accepted_mark (upper_if_accepted s c) s.life c (came line c l e)

at_once_by : (w : Bool) (s : RevivalState) (line : List ℕ) → is_line line ≡ true → AllMark (if w then quit_to s.quit s.life else read_at_once s (order_of_line line))
at_once_by true s line l = mark_if (not s.quit && is_served s.life) orders.Quit quit_mark
at_once_by false s line l = read_mark s (trimmed line) (order_of_line line) refl (trimmed_line line l)

first_by : (w : Bool) → AllMark (if w then [] else orders.Uci ∷ [])
first_by true = tt
first_by false = (uci_mark, tt)

first_mark : (s : RevivalState) (call : RevivalCall) → IsProperCall call → AllMark (first_orders s call)
first_mark s (Order line) l = at_once_by (is_quit line) s line l
first_mark s (Heard line) l = tt
first_mark s Ended l = tt
first_mark s Begin l = first_by (is_before s.upper)
first_mark s Over l = tt

readies_mark : (n : ℕ) → AllMark (readies n)
readies_mark zero = tt
readies_mark (suc n) = (ready_mark, readies_mark n)

due_mark : (d : DueOrders) (unsent : List AnyOrder) (held : ℕ) (search : List AnyOrder) → AllMark unsent → AllMark search → AllMark (due_orders d unsent held search)
due_mark due.Nothing u n s h k = tt
due_mark due.Settings u n s h k = all_mark u (readies n) h (readies_mark n)
due_mark due.Search u n s h k = all_mark u (readies n ++ s) h (all_mark (readies n) s (readies_mark n) k)

orders_mark : (s : RevivalState) (call : RevivalCall) → IsProperCall call → HasMarks s → AllMark (orders_to_life s call)
orders_mark s call l h =
    let t = state_after_call s call in
    let m = turned_marks s call l h in
    all_mark (first_orders s call) (settled_orders t) (first_mark s call l) (due_mark (due_of t) t.unsent t.held_ready t.search m.unsent m.search)

-- THE MARKS OF A CALL

abbrev pub AllWritten : List (List ℕ) → Type 0
AllWritten lines = AllByRecursion (λ (line : List ℕ). is_written line ≡ true) lines

feedless : (line : List ℕ) → is_written line ≡ true → has_feed line ≡ false
feedless line h = let p = and_parts (nat_le (length line) 131070) (not (has_feed line)) h in not_true (has_feed line) p.1
  where
    not_true : (b : Bool) → not b ≡ true → b ≡ false
    not_true true e = cc
    not_true false e = refl

-- a written line, and what follows it
line_parts : (line more : List ℕ) → is_written line ≡ true → AllWritten (parts_by_feed more) → AllWritten (parts_by_feed ((line ++ 10 ∷ []) ++ more))
line_parts line more h k =
    let e : parts_by_feed ((line ++ 10 ∷ []) ++ more) ≡ line ∷ parts_by_feed more = ap parts_by_feed (append_assoc line (10 ∷ []) more) ∙ parts_line line more (feedless line h) in
    subst (λ (ps : List (List ℕ)). AllWritten ps) (sym e) (h, k)

batch_parts : (list : List AnyOrder) → AllMark list → AllWritten (parts_by_feed (revival_batch_text list))
batch_parts [] h = tt
batch_parts (c ∷ cs) h = line_parts (revival_order_text c) (revival_batch_text cs) h.0 (batch_parts cs h.1)

readyok_parts : (n : ℕ) (more : List ℕ) → AllWritten (parts_by_feed more) → AllWritten (parts_by_feed (readyoks n ++ more))
readyok_parts zero more h = h
readyok_parts (suc n) more h =
    let first = codes "readyok" ++ 10 ∷ [] in
    subst (λ (t : List ℕ). AllWritten (parts_by_feed t)) (sym (append_assoc first (readyoks n) more))
    (line_parts (codes "readyok") (readyoks n ++ more) refl (readyok_parts n more h))

readyoks_parts : (n : ℕ) → AllWritten (parts_by_feed (readyoks n))
readyoks_parts zero = tt
readyoks_parts (suc n) = line_parts (codes "readyok") (readyoks n) refl (readyoks_parts n)

answer_parts : (a : StandInAnswer) (held : ℕ) → AllWritten (parts_by_feed (stand_in_text a held))
answer_parts answers.Nothing held = tt
answer_parts answers.UciOk held = line_parts (codes "uciok") (readyoks held) refl (readyoks_parts held)
answer_parts answers.ReadyOk held = readyoks_parts held
answer_parts answers.NoMove held = readyok_parts held (codes "bestmove 0000" ++ 10 ∷ []) (refl, tt)

given_parts : (w : Bool) (line : List ℕ) (a : StandInAnswer) (held : ℕ) → is_line line ≡ true → AllWritten (parts_by_feed ((if w then line ++ 10 ∷ [] else []) ++ stand_in_text a held))
given_parts true line a held l = line_parts line (stand_in_text a held) (line_written line l) (answer_parts a held)
given_parts false line a held l = answer_parts a held

up_parts : (s : RevivalState) (call : RevivalCall) → IsProperCall call → AllWritten (parts_by_feed (up_of s call))
up_parts s (Heard line) l = let t = state_after_call s (Heard line) in given_parts (gives s (said_in line)) line (answer_of t) t.held_ready l
up_parts s (Order line) l = let t = state_after_call s (Order line) in answer_parts (answer_of t) t.held_ready
up_parts s Ended l = let t = state_after_call s Ended in answer_parts (answer_of t) t.held_ready
up_parts s Begin l = let t = state_after_call s Begin in answer_parts (answer_of t) t.held_ready
up_parts s Over l = let t = state_after_call s Over in answer_parts (answer_of t) t.held_ready

-- THE MARKS OF AN EVENT

up_marks : (ps : List (List ℕ)) → flat_map (line_marked 88) ps ≡ script_of (map ToIface ps)
up_marks [] = refl
up_marks (p ∷ ps) = ap (λ (t : List ℕ). line_marked 88 p ++ t) (up_marks ps)

child_marks : (ps : List (List ℕ)) → flat_map (line_marked 85) ps ≡ script_of (map ToEngine ps)
child_marks [] = refl
child_marks (p ∷ ps) = ap (λ (t : List ℕ). line_marked 85 p ++ t) (child_marks ps)

up_spelled : (ps : List (List ℕ)) → AllWritten ps → MarksAreSpelled (map ToIface ps)
up_spelled [] h = tt
up_spelled (p ∷ ps) h = (h.0, up_spelled ps h.1)

child_spelled : (ps : List (List ℕ)) → AllWritten ps → MarksAreSpelled (map ToEngine ps)
child_spelled [] h = tt
child_spelled (p ∷ ps) h = (h.0, child_spelled ps h.1)

both_spelled : (a b : List Mark) → MarksAreSpelled a → MarksAreSpelled b → MarksAreSpelled (a ++ b)
both_spelled [] b h k = k
both_spelled (m ∷ ms) b h k = (h.0, both_spelled ms b h.1 k)

abbrev pub written_by : List ℕ → List ℕ → List Mark
written_by up child = map ToIface (parts_by_feed up) ++ map ToEngine (parts_by_feed child)

abbrev pub marks_of : RevivalState → Event → List Mark
marks_of s e = Happens e ∷ written_by (up_of (state_before s e) (call_of_event s e)) (child_of (state_before s e) (call_of_event s e))

marks_text : (e : Event) (up child : List ℕ) → marks_of_written e up child ≡ script_of (Happens e ∷ written_by up child)
marks_text e up child =
    ap (λ (t : List ℕ). event_marked e ++ t)
    (ap (λ (t : List ℕ). t ++ lines_marked 85 child) (up_marks (parts_by_feed up))
    ∙ ap (λ (t : List ℕ). script_of (map ToIface (parts_by_feed up)) ++ t) (child_marks (parts_by_feed child))
    ∙ sym (flat_map-append mark_line (map ToIface (parts_by_feed up)) (map ToEngine (parts_by_feed child))))

abbrev pub event_by : Mark → List Event
event_by (Happens event) = event ∷ []
event_by mark = []

-- the events of marks
abbrev pub reported_in : List Mark → List Event
reported_in marks = flat_map (λ (m : Mark). event_by m) marks

no_up : (ps : List (List ℕ)) → reported_in (map ToIface ps) ≡ []
no_up [] = refl
no_up (p ∷ ps) = no_up ps

no_child : (ps : List (List ℕ)) → reported_in (map ToEngine ps) ≡ []
no_child [] = refl
no_child (p ∷ ps) = no_child ps

reported_written : (up child : List ℕ) → reported_in (written_by up child) ≡ []
reported_written up child =
    flat_map-append (λ (m : Mark). event_by m) (map ToIface (parts_by_feed up)) (map ToEngine (parts_by_feed child))
    ∙ ap (λ (es : List Event). es ++ reported_in (map ToEngine (parts_by_feed child))) (no_up (parts_by_feed up))
    ∙ no_child (parts_by_feed child)

proper_by : (w : Bool) → IsProperCall (if w then Begin else Over)
proper_by true = tt
proper_by false = tt

proper_call : (s : RevivalState) (e : Event) → IsMarkSpelled (Happens e) → IsProperCall (call_of_event s e)
proper_call s (Iface line) h = h
proper_call s IfaceEnd h = refl
proper_call s (Engine line) h = h
proper_call s EngineLong h = proper_by (may_begin s)
proper_call s e h = tt

before_marks : (s : RevivalState) (e : Event) → HasMarks s → HasMarks (state_before s e)
before_marks s EngineLong h = record { kept = h.kept; unsent = h.unsent; search = h.search }
before_marks s e h = h

event_spelled : (s : RevivalState) (e : Event) → IsMarkSpelled (Happens e) → HasMarks s → MarksAreSpelled (marks_of s e)
event_spelled s e l h =
    let b = state_before s e in
    let call = call_of_event s e in
    let p = proper_call s e l in (
      l,
      both_spelled (map ToIface (parts_by_feed (up_of b call))) (map ToEngine (parts_by_feed (child_of b call)))
          (up_spelled (parts_by_feed (up_of b call)) (up_parts b call p))
          (child_spelled (parts_by_feed (child_of b call)) (batch_parts (orders_to_life b call) (orders_mark b call p (before_marks s e h)))),
    )

-- EVENTS IN A ROW

abbrev pub marks_from : RevivalState → List Event → List Mark
marks_from s [] = []
marks_from s (e ∷ es) = marks_of s e ++ marks_from (revival_state_after s e) es

pub from_text : (s : RevivalState) (es : List Event) → texts_from s es ≡ script_of (marks_from s es)
from_text s [] = refl
from_text s (e ∷ es) =
    let b = state_before s e in
    ap (λ (t : List ℕ). t ++ texts_from (revival_state_after s e) es) (marks_text e (up_of b (call_of_event s e)) (child_of b (call_of_event s e)))
    ∙ ap (λ (t : List ℕ). script_of (marks_of s e) ++ t) (from_text (revival_state_after s e) es)
    ∙ sym (flat_map-append mark_line (marks_of s e) (marks_from (revival_state_after s e) es))

pub from_reported : (s : RevivalState) (es : List Event) → reported_in (marks_from s es) ≡ es
from_reported s [] = refl
from_reported s (e ∷ es) =
    let b = state_before s e in
    flat_map-append (λ (m : Mark). event_by m) (marks_of s e) (marks_from (revival_state_after s e) es)
    ∙ ap (λ (x : List Event). (e ∷ x) ++ reported_in (marks_from (revival_state_after s e) es)) (reported_written (up_of b (call_of_event s e)) (child_of b (call_of_event s e)))
    ∙ ap (λ (x : List Event). e ∷ x) (from_reported (revival_state_after s e) es)

pub from_spelled : (s : RevivalState) (es : List Event) → MarksAreSpelled (map Happens es) → HasMarks s → MarksAreSpelled (marks_from s es)
from_spelled s [] l h = tt
from_spelled s (e ∷ es) l h =
    both_spelled (marks_of s e) (marks_from (revival_state_after s e) es) (event_spelled s e l.0 h)
    (from_spelled (revival_state_after s e) es l.1 (after_marks (state_before s e) (call_of_event s e) (proper_call s e l.0) (before_marks s e h)))

-- before the first event
pub no_marks : (lives : ℕ) → HasMarks (opening_revival lives)
no_marks lives = record { kept = tt; unsent = tt; search = tt }
