-- An order may be heard before a line of the engine that was written before it was read: less is known then.
use Rattle.std.proofs.Common.{◌≡◌, inr, ℕ, List, Bool, true, false, cond, Option, Some, None, refl, sym, ap, subst, ◌∙◌}
use Rattle.std.specs.Prelude.{nat_lt}
use Rattle.line_io.specs.Event as events
use Rattle.script_lines.specs.Marks.{Mark, Happens, ToEngine}
use Rattle.uci_lines.specs.Engine.{engine_message}
use Rattle.session_judge.specs.declared.listener.Listener.{Listener}
use Rattle.session_judge.specs.declared.listener.Listener.TheVariants as listeners
use Rattle.engine_conduct.specs.declared.known.Known.{Known}
use Rattle.engine_conduct.specs.declared.known.LongLines.TheVariants as long_lines
use Rattle.engine_conduct.specs.declared.orders.HeardOrder.{HeardOrder}
use Rattle.engine_conduct.specs.declared.orders.HeardOrder.TheVariants as orders
use Rattle.engine_conduct.specs.declared.orders.GameChoice.{GameChoice}
use Rattle.engine_conduct.specs.declared.orders.GameChoice.TheVariants as choices
use Rattle.engine_conduct.specs.declared.words.EngineWord.{EngineWord}
use Rattle.engine_conduct.specs.declared.words.EngineWord.TheVariants as engines
use Rattle.engine_conduct.specs.Conduct.{Conduct, after_long_by, conduct_after, heard, is_hearing}
use Rattle.engine_conduct.specs.Innocent.{Keeps, LineKeeps, is_read, is_said}
use Rattle.engine_conduct.specs.Known.{after_choice}
use Rattle.engine_conduct.specs.Orders.{declared_set, order_heard}
use Rattle.engine_conduct.specs.Words.{engine_word_in}
use Rattle.engine_conduct.proofs.Below.{Below, KnowsLess, deaf_when, heard_when, hears, order_below, ordered, same_below, search_same, told, told_below}
use Rattle.engine_conduct.proofs.Kept.{kept_order}
use Rattle.engine_conduct.proofs.Answered.{InRange, best_word, boot_word, ready_word, same}
use Rattle.engine_conduct.proofs.OptionsSwap.{option_order}

-- EACH LINE

said_order : (c : Conduct) (o : HeardOrder) (text : List ℕ) (w : Option EngineWord) (line : List ℕ) → LineKeeps c w line → InRange c.known.due
    → KnowsLess (told (ordered c 0 o text) w line) (ordered (told c w line) 0 o text)
said_order c (orders.Word o) text (Some engines.UciOk) line h r = same _ _ (boot_word c o text line r h.is_asked)
said_order c (orders.Word o) text (Some engines.ReadyOk) line h r = same _ _ (ready_word c o text line r h.is_asked)
said_order c (orders.Word o) text (Some engines.Best) line h r = best_word c o text line r h.is_asked
said_order c o text (Some engines.Option) line h r = option_order c o text line h
said_order c o text w line h r = same_below _

kept_said : (c : Conduct) (o : HeardOrder) (text : List ℕ) (w : Option EngineWord) (line : List ℕ) → LineKeeps c w line → LineKeeps (ordered c 0 o text) w line
kept_said c o text None line h = tt
kept_said c o text (Some w) line h = kept_order c o text w line h

-- MARKS

-- The order may be heard first: the line keeps to UCI then too, and less is known.
pub record Swaps (c : Conduct) (order said : Mark) : Type 0 where
  pub keeps : Keeps (conduct_after c 0 order) said
  pub less : KnowsLess (conduct_after (conduct_after c 0 order) 0 said) (conduct_after (conduct_after c 0 said) 0 order)

deaf_on : (d : Conduct) (mark : Mark) → hears d ≡ false → hears (conduct_after d 0 mark) ≡ true → ⊥
deaf_on d mark e i = let x = ap hears (deaf_when d 0 mark e) in cc

-- where nothing is judged any more
swaps_deaf : (c : Conduct) (order said : Mark) → hears (conduct_after c 0 order) ≡ false → Swaps c order said
swaps_deaf c order said e = record {
  keeps = λ i. absurd (cc);
  less = λ i. absurd (deaf_on (conduct_after c 0 order) said e i);
}

-- what comes of a line of the engine that was told to go on
swaps_line : (c : Conduct) (text line : List ℕ) → hears c ≡ true → InRange c.known.due → LineKeeps c (engine_word_in line) line → Swaps c (ToEngine text) (Happens (events.Engine line))
swaps_line c text line e r h = by (hears d) refl where
  o : HeardOrder
  o = order_heard text

  d : Conduct
  d = ordered c 0 (order_heard text) text

  t : Conduct
  t = told c (engine_word_in line) line

  heard_d : conduct_after c 0 (ToEngine text) ≡ d
  heard_d = heard_when c 0 (ToEngine text) e

  heard_t : conduct_after c 0 (Happens (events.Engine line)) ≡ t
  heard_t = heard_when c 0 (Happens (events.Engine line)) e

  heard_td : conduct_after t 0 (ToEngine text) ≡ ordered t 0 (order_heard text) text
  heard_td = heard_when t 0 (ToEngine text) (told_below c c (engine_word_in line) line (same_below c e)).heard_so

  right : conduct_after (conduct_after c 0 (Happens (events.Engine line))) 0 (ToEngine text) ≡ ordered t 0 (order_heard text) text
  right = ap (λ (x : Conduct). conduct_after x 0 (ToEngine text)) heard_t ∙ heard_td

  by : (z : Bool) → hears d ≡ z → Swaps c (ToEngine text) (Happens (events.Engine line))
  by false f = swaps_deaf c (ToEngine text) (Happens (events.Engine line)) (ap hears heard_d ∙ f)
  by true f = record {
    keeps = λ i. subst (λ (x : Conduct). LineKeeps x (engine_word_in line) line) (sym heard_d) (kept_said c (order_heard text) text (engine_word_in line) line h);
    less =
        let left : conduct_after (conduct_after c 0 (ToEngine text)) 0 (Happens (events.Engine line)) ≡ told d (engine_word_in line) line
        = ap (λ (x : Conduct). conduct_after x 0 (Happens (events.Engine line))) heard_d ∙ heard_when d 0 (Happens (events.Engine line)) f in
        subst (λ (x : Conduct). KnowsLess x (conduct_after (conduct_after c 0 (Happens (events.Engine line))) 0 (ToEngine text))) (sym left)
        (subst (λ (x : Conduct). KnowsLess (told d (engine_word_in line) line) x) (sym right) (said_order c (order_heard text) text (engine_word_in line) line h r));
  }

-- a line that is too long for a log
abbrev long_said : Conduct → Conduct
long_said c = record { known = record (c.known) { long = long_lines.Some }; listed = c.listed }

long_less : (a b : Conduct) → Below a b → Below (long_said a) b
long_less a b h = record { heard_so = h.heard_so; listener = h.listener; due = h.due; castling = h.castling; game = h.game; placed = h.placed; search = h.search }

long_more : (c : Conduct) → hears c ≡ true → Below c (long_said c)
long_more c e = record { heard_so = e; listener = refl; due = refl; castling = refl; game = inr refl; placed = inr refl; search = search_same c.known.search c.listed }

swaps_long : (c : Conduct) (text : List ℕ) → hears c ≡ true → Swaps c (ToEngine text) (Happens events.EngineLong)
swaps_long c text e = by (hears d) refl where
  d : Conduct
  d = ordered c 0 (order_heard text) text

  heard_d : conduct_after c 0 (ToEngine text) ≡ d
  heard_d = heard_when c 0 (ToEngine text) e

  right : conduct_after (conduct_after c 0 (Happens events.EngineLong)) 0 (ToEngine text) ≡ ordered (long_said c) 0 (order_heard text) text
  right = ap (λ (x : Conduct). conduct_after x 0 (ToEngine text)) (heard_when c 0 (Happens events.EngineLong) e) ∙ heard_when (long_said c) 0 (ToEngine text) e

  by : (z : Bool) → hears d ≡ z → Swaps c (ToEngine text) (Happens events.EngineLong)
  by false f = swaps_deaf c (ToEngine text) (Happens events.EngineLong) (ap hears heard_d ∙ f)
  by true f = record {
    keeps = λ i. tt;
    less =
        let left : conduct_after (conduct_after c 0 (ToEngine text)) 0 (Happens events.EngineLong) ≡ long_said d
        = ap (λ (x : Conduct). conduct_after x 0 (Happens events.EngineLong)) heard_d ∙ heard_when d 0 (Happens events.EngineLong) f in
        subst (λ (x : Conduct). KnowsLess x (conduct_after (conduct_after c 0 (Happens events.EngineLong)) 0 (ToEngine text))) (sym left)
        (subst (λ (x : Conduct). KnowsLess (long_said d) x) (sym right)
        (λ i. long_less d (ordered (long_said c) 0 (order_heard text) text) (order_below c (long_said c) 0 0 (order_heard text) text (long_more c e) f)));
  }

-- a long line of the interface, which only behind a tap may have been an order
choice_listener : (k : Known) (x : Option GameChoice) → (after_choice k x).listener ≡ k.listener
choice_listener k None = refl
choice_listener k (Some (choices.Castling y)) = refl
choice_listener k (Some choices.Declared) = refl
choice_listener k (Some (choices.Game y)) = refl

declared_listener : (z : Bool) (k : Known) (x : Option GameChoice) → (cond z (after_choice k x) k).listener ≡ k.listener
declared_listener true k x = choice_listener k x
declared_listener false k x = refl

told_listener : (c : Conduct) (w : Option EngineWord) (line : List ℕ) → (told c w line).known.listener ≡ c.known.listener
told_listener c (Some engines.UciOk) line = refl
told_listener c (Some engines.ReadyOk) line = refl
told_listener c (Some engines.Best) line = refl
told_listener c (Some engines.Option) line = declared_listener (nat_lt 0 c.known.due.boots) c.known (declared_set (engine_message line))
told_listener c w line = refl

heard_listener : (c : Conduct) (said : Mark) → is_said said ≡ true → (heard c.known c.listed 0 said).known.listener ≡ c.known.listener
heard_listener c (Happens (events.Engine line)) s = told_listener c (engine_word_in line) line
heard_listener c (Happens events.EngineLong) s = refl
heard_listener c (Happens events.EngineEnd) s = refl
heard_listener c (Happens events.EngineLost) s = refl
heard_listener c said s = absurd (cc)

said_listener : (c : Conduct) (said : Mark) → is_said said ≡ true → (conduct_after c 0 said).known.listener ≡ c.known.listener
said_listener c said s = by (hears c) refl where
  by : (z : Bool) → hears c ≡ z → (conduct_after c 0 said).known.listener ≡ c.known.listener
  by true e = ap (λ (d : Conduct). d.known.listener) (heard_when c 0 said e) ∙ heard_listener c said s
  by false e = ap (λ (d : Conduct). d.known.listener) (deaf_when c 0 said e)

bridge_long : (c : Conduct) → c.known.listener ≡ listeners.Bridge → conduct_after c 0 (Happens events.IfaceLong) ≡ c
bridge_long c l = by (hears c) refl where
  by : (z : Bool) → hears c ≡ z → conduct_after c 0 (Happens events.IfaceLong) ≡ c
  by true e = heard_when c 0 (Happens events.IfaceLong) e ∙ ap (λ (x : Listener). record { known = after_long_by x c.known 0; listed = c.listed }) l
  by false e = deaf_when c 0 (Happens events.IfaceLong) e

tap_long : (c : Conduct) → hears c ≡ true → c.known.listener ≡ listeners.Tap → hears (conduct_after c 0 (Happens events.IfaceLong)) ≡ false
tap_long c e l = ap hears (heard_when c 0 (Happens events.IfaceLong) e) ∙ ap (λ (x : Listener). is_hearing (after_long_by x c.known 0).hearing) l

swaps_iface_long : (c : Conduct) (said : Mark) → is_said said ≡ true → hears c ≡ true → Keeps c said → Swaps c (Happens events.IfaceLong) said
swaps_iface_long c said s e k = by c.known.listener refl where
  by : (x : Listener) → c.known.listener ≡ x → Swaps c (Happens events.IfaceLong) said
  by listeners.Tap l = swaps_deaf c (Happens events.IfaceLong) said (tap_long c e l)
  by listeners.Bridge l = record {
    keeps = subst (λ (d : Conduct). Keeps d said) (sym (bridge_long c l)) k;
    less =
        subst (λ (d : Conduct). KnowsLess (conduct_after d 0 said) (conduct_after (conduct_after c 0 said) 0 (Happens events.IfaceLong))) (sym (bridge_long c l))
        (subst (λ (d : Conduct). KnowsLess (conduct_after c 0 said) d) (sym (bridge_long (conduct_after c 0 said) (said_listener c said s ∙ l))) (same_below (conduct_after c 0 said)));
  }

swaps_hearing : (c : Conduct) (order said : Mark) → is_read order ≡ true → is_said said ≡ true → hears c ≡ true → Keeps c said → InRange c.known.due → Swaps c order said
swaps_hearing c order (Happens events.EngineEnd) o s e k r = absurd (k e)
swaps_hearing c order (Happens events.EngineLost) o s e k r = absurd (k e)
swaps_hearing c (Happens events.IfaceEnd) said o s e k r = swaps_deaf c (Happens events.IfaceEnd) said (ap hears (heard_when c 0 (Happens events.IfaceEnd) e))
swaps_hearing c (Happens events.IfaceLost) said o s e k r = swaps_deaf c (Happens events.IfaceLost) said (ap hears (heard_when c 0 (Happens events.IfaceLost) e))
swaps_hearing c (Happens events.IfaceLong) said o s e k r = swaps_iface_long c said s e k
swaps_hearing c (ToEngine text) (Happens (events.Engine line)) o s e k r = swaps_line c text line e r (k e)
swaps_hearing c (ToEngine text) (Happens events.EngineLong) o s e k r = swaps_long c text e
swaps_hearing c (ToEngine text) said o s e k r = absurd (cc)
swaps_hearing c order said o s e k r = absurd (cc)

pub swaps_all : (c : Conduct) (order said : Mark) → is_read order ≡ true → is_said said ≡ true → Keeps c said → InRange c.known.due → Swaps c order said
swaps_all c order said o s k r = by (hears c) refl where
  by : (z : Bool) → hears c ≡ z → Swaps c order said
  by true e = swaps_hearing c order said o s e k r
  by false e = swaps_deaf c order said (ap hears (deaf_when c 0 order e) ∙ e)
