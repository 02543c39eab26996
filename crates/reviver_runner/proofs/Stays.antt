-- The parts that an order or a line of the present life leaves as they are.
use Rattle.std.proofs.Common.{◌≡◌, ℕ, List, [], ◌∷◌, ◌++◌, codes, Bool, true, false, cond, nat_lt, ◌||◌, ◌&&◌, not, Option, Some, None, refl, sym, ap, subst, ◌∙◌}
use Rattle.line_io.specs.Event.{Event, Iface, IfaceEnd, Engine}
use Rattle.protocol_tokens.specs.Quit.{is_quit}
use Rattle.engine_revival.specs.Orders.{RevivalOrder}
use Rattle.engine_revival.specs.Orders as orders
use Rattle.engine_revival.specs.Asked.{order_of_line}
use Rattle.event_pipe.specs.Message.{is_last_event}
use Rattle.engine_revival.specs.declared.words.DialogueState.{DialogueState}
use Rattle.engine_revival.specs.declared.words.DialogueState.TheVariants as upper
use Rattle.protocol_tokens.specs.declared.kinds.GoKind.TheVariants as kinds
use Rattle.engine_revival.specs.declared.words.LifeState.{LifeState}
use Rattle.engine_revival.specs.declared.words.LifeState.TheVariants as life
use Rattle.engine_revival.specs.declared.words.LifeSaid.{LifeSaid}
use Rattle.engine_revival.specs.declared.words.LifeSaid.TheVariants as said
use Rattle.engine_revival.specs.declared.state.RevivalState.{RevivalState}
use Rattle.engine_revival.specs.Dialogue.{said_in}
use Rattle.engine_revival.specs.Lists.{revival_order_can_join}
use Rattle.engine_revival.specs.Steps.{is_alive, is_ended, state_with_kept, revival_with_value, with_button, state_if_accepted, upper_if_accepted, after_at_once, state_after_reading, state_after_line, with_quit, state_once_heard, life_after_said, due_of, due_to, after_due, answer_to, after_answer, state_once_settled}
use Rattle.engine_revival.specs.Calls.{RevivalCall, Order as Ordered, Heard, revival_after}
use Rattle.engine_revival.specs.Script.{revival_state_after, state_behind}
use Rattle.reviver_runner.specs.Played.{is_heard, events_for_revival}

-- the number of lives and of those begun stay, and a life that goes on does
pub record Stays (s s' : RevivalState) : Type 0 where
  pub lives : s'.lives ≡ s.lives
  pub begun : s'.begun ≡ s.begun
  pub alive : is_alive s.life ≡ true → is_alive s'.life ≡ true
  pub unended : is_ended s.life ≡ false → is_ended s'.life ≡ false

pub stays_both : (s s' s'' : RevivalState) → Stays s s' → Stays s' s'' → Stays s s''
stays_both s s' s'' a b = record { lives = b.lives ∙ a.lives; begun = b.begun ∙ a.begun; alive = λ h. b.alive (a.alive h); unended = λ h. b.unended (a.unended h) }

same : (s : RevivalState) → Stays s s
same s = record { lives = refl; begun = refl; alive = λ h. h; unended = λ h. h }

-- WHAT FOLLOWS OF A CALL

due_stays : (l : LifeState) (q : Bool) (u : DialogueState) (held : Bool) (s : RevivalState) → Stays s (after_due (due_to l q u held) s)
due_stays life.Idle false (upper.Search kind stopped) held s = record { lives = refl; begun = refl; alive = λ h. refl; unended = λ h. refl }
due_stays life.Idle false u true s = record { lives = refl; begun = refl; alive = λ h. h; unended = λ h. h }
due_stays life.Idle false u false s = same s
due_stays life.Search false u true s = record { lives = refl; begun = refl; alive = λ h. h; unended = λ h. h }
due_stays life.Search false u false s = same s
due_stays l q u held s = same s

answer_stays : (l : LifeState) (u : DialogueState) (s : RevivalState) → Stays s (after_answer (answer_to l u) s)
answer_stays life.Over upper.Boot s = record { lives = refl; begun = refl; alive = λ h. h; unended = λ h. h }
answer_stays life.Over (upper.Search kinds.Move stopped) s = record { lives = refl; begun = refl; alive = λ h. h; unended = λ h. h }
answer_stays life.Over (upper.Search kind true) s = record { lives = refl; begun = refl; alive = λ h. h; unended = λ h. h }
answer_stays life.Over u s = record { lives = refl; begun = refl; alive = λ h. h; unended = λ h. h }
answer_stays l u s = same s

pub settled_stays : (s : RevivalState) → Stays s (state_once_settled s)
settled_stays s = stays_both s (after_due (due_of s) s) (state_once_settled s) (due_stays s.life s.quit s.upper (nat_lt 0 s.held_ready) s) (answer_stays s.life s.upper (after_due (due_of s) s))

-- AN ORDER

value_stays : (b : Bool) (s : RevivalState) (order : RevivalOrder) → Stays s (revival_with_value b s order)
value_stays true s order = record { lives = refl; begun = refl; alive = λ h. h; unended = λ h. h }
value_stays false s order = record { lives = refl; begun = refl; alive = λ h. h; unended = λ h. h }

button_stays : (b : Bool) (s : RevivalState) (order : RevivalOrder) → Stays s (with_button b s order)
button_stays true s order = record { lives = refl; begun = refl; alive = λ h. h; unended = λ h. h }
button_stays false s order = record { lives = refl; begun = refl; alive = λ h. h; unended = λ h. h }

keeping_stays : (s : RevivalState) (order : RevivalOrder) → Stays s (state_with_kept s order)
keeping_stays s (orders.Value name line) = value_stays (revival_order_can_join s.kept (orders.Value name line) && revival_order_can_join s.unsent (orders.Value name line)) s (orders.Value name line)
keeping_stays s (orders.Button name line) = button_stays (revival_order_can_join s.unsent (orders.Button name line)) s (orders.Button name line)
keeping_stays s order = record { lives = refl; begun = refl; alive = λ h. h; unended = λ h. h }

fresh_alive : (order : RevivalOrder) → is_alive (after_at_once life.Fresh order) ≡ true
fresh_alive orders.Uci = refl
fresh_alive order = refl

once_alive : (state : LifeState) (order : RevivalOrder) → is_alive state ≡ true → is_alive (after_at_once state order) ≡ true
once_alive life.Fresh order h = fresh_alive order
once_alive life.Boot order h = refl
once_alive life.Idle order h = refl
once_alive life.Search order h = refl
once_alive life.Ended order h = cc
once_alive life.Over order h = cc

fresh_open : (order : RevivalOrder) → is_ended (after_at_once life.Fresh order) ≡ false
fresh_open orders.Uci = refl
fresh_open order = refl

once_open : (state : LifeState) (order : RevivalOrder) → is_ended state ≡ false → is_ended (after_at_once state order) ≡ false
once_open life.Fresh order h = fresh_open order
once_open life.Boot order h = refl
once_open life.Idle order h = refl
once_open life.Search order h = refl
once_open life.Ended order h = cc
once_open life.Over order h = refl

accepting_stays : (up : Option DialogueState) (s : RevivalState) (order : RevivalOrder) → Stays s (state_if_accepted up s order)
accepting_stays None s order = same s
accepting_stays (Some up) s order =
    let k = keeping_stays s order in
    record { lives = k.lives; begun = k.begun; alive = λ h. once_alive s.life order h; unended = λ h. once_open s.life order h }

reading_stays : (s : RevivalState) (order : Option RevivalOrder) → Stays s (state_after_reading s order)
reading_stays s None = same s
reading_stays s (Some order) = accepting_stays (upper_if_accepted s order) s order

quit_stays : (s : RevivalState) → Stays s (with_quit s)
quit_stays s = record { lives = refl; begun = refl; alive = λ h. h; unended = λ h. h }

either_stays : (b : Bool) (s t u : RevivalState) → Stays s t → Stays s u → Stays s (cond b t u)
either_stays true s t u a c = a
either_stays false s t u a c = c

ordering_stays : (s : RevivalState) (line : List ℕ) → Stays s (state_after_line s line)
ordering_stays s line = either_stays (is_quit line) s (with_quit s) (state_after_reading s (order_of_line line)) (quit_stays s) (reading_stays s (order_of_line line))

pub order_stays : (s : RevivalState) (line : List ℕ) → Stays s (revival_after s (Ordered line))
order_stays s line = stays_both s (state_after_line s line) (state_once_settled (state_after_line s line)) (ordering_stays s line) (settled_stays (state_after_line s line))

-- A LINE OF THE LIFE

said_alive : (state : LifeState) (argument : LifeSaid) → is_alive state ≡ true → is_alive (life_after_said state argument) ≡ true
said_alive life.Ended argument h = cc
said_alive life.Over argument h = cc
said_alive state said.UciOk h = refl
said_alive state argument h = refl

said_open : (state : LifeState) (argument : LifeSaid) → is_ended state ≡ false → is_ended (life_after_said state argument) ≡ false
said_open life.Ended argument h = cc
said_open state said.UciOk h = refl
said_open state argument h = refl

hearing_stays : (s : RevivalState) (argument : LifeSaid) → Stays s (state_once_heard s argument)
hearing_stays s argument = record { lives = refl; begun = refl; alive = λ h. said_alive s.life argument h; unended = λ h. said_open s.life argument h }

heard_stays : (s : RevivalState) (line : List ℕ) → Stays s (revival_after s (Heard line))
heard_stays s line = stays_both s (state_once_heard s (said_in line)) (state_once_settled (state_once_heard s (said_in line))) (hearing_stays s (said_in line)) (settled_stays (state_once_heard s (said_in line)))

pub event_stays : (s : RevivalState) (e : Event) → is_heard e ≡ true → Stays s (revival_state_after s e)
event_stays s (Iface line) h = order_stays s line
event_stays s IfaceEnd h = order_stays s (codes "quit")
event_stays s (Engine line) h = heard_stays s line
event_stays s e h = cc

hear_or_pass : (b : Bool) (s : RevivalState) (e : Event) (es : List Event) → is_heard e ≡ b → Stays (revival_state_after s e) (state_behind (revival_state_after s e) (events_for_revival es)) → Stays s (state_behind s (events_for_revival es))
    → Stays s (state_behind s (cond b (e ∷ events_for_revival es) (events_for_revival es)))
hear_or_pass true s e es h x y = stays_both s (revival_state_after s e) (state_behind (revival_state_after s e) (events_for_revival es)) (event_stays s e h) x
hear_or_pass false s e es h x y = y

pub events_stay : (s : RevivalState) (es : List Event) → Stays s (state_behind s (events_for_revival es))
events_stay s [] = same s
events_stay s (e ∷ es) = hear_or_pass (is_heard e) s e es refl (events_stay (revival_state_after s e) es) (events_stay s es)
