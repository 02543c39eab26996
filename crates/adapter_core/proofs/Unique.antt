-- Two lawful traces with the same events are equal.
use Rattle.std.proofs.Common.{◌≡◌, List, [], ◌∷◌, map, Bool, true, false, refl, sym, ap, subst, ◌∙◌}
use Rattle.line_io.specs.Event.{Event}
use Rattle.cecp_lines.specs.Replies.{Reply}
use Rattle.uci_lines.specs.Orders.{Order}
use Rattle.uci_lines.specs.Orders as orders
use Rattle.policy_rules.specs.declared.setting_rules.settings.Settings.{Settings}
use Rattle.search_epochs.specs.Tickets.{Word, Stop, PonderHit, Quit, Paired, has_batch, has_go, is_due, is_ponder_hit, is_move_now}
use Rattle.search_epochs.proofs.Same.{same}
use Rattle.desk_rules.specs.Orders.{dialogue_word_of}
use Rattle.adapter_core.specs.Ends.{is_open}
use Rattle.adapter_core.specs.Trace.{State, Step, IsLawfulStep, AreSettled, state, turn_of_event, mid, owed_after, closed_after, event_of_step}
use Rattle.adapter_core.specs.Represents.{IsOneDialogue}

-- the order of a word, where the word tells it
abbrev order_of : Word → Order
order_of Stop = orders.Stop
order_of PonderHit = orders.PonderHit
order_of Quit = orders.Quit
order_of w = orders.Uci

-- orders without a batch and without a search are told by their words
plain : (os : List Order) → has_batch (map dialogue_word_of os) ≡ false → has_go (map dialogue_word_of os) ≡ false → Paired (map dialogue_word_of os) → map order_of (map dialogue_word_of os) ≡ os
plain [] b g p = refl
plain (orders.Uci ∷ os) b g p = ap (λ xs. orders.Uci ∷ xs) (plain os b g p)
plain (orders.Stop ∷ os) b g p = ap (λ xs. orders.Stop ∷ xs) (plain os b g p)
plain (orders.PonderHit ∷ os) b g p = ap (λ xs. orders.PonderHit ∷ xs) (plain os b g p)
plain (orders.Quit ∷ os) b g p = ap (λ xs. orders.Quit ∷ xs) (plain os b g p)
plain (orders.IsReady ∷ os) b g p = cc
plain (orders.NewGame ∷ os) b g p = cc
plain (orders.SetOption name value ∷ os) b g p = cc
plain (orders.Go ponder control depth ∷ os) b g p = cc
plain (orders.Position fen moves ∷ orders.Go ponder control depth ∷ os) b g p = cc
plain os b g p = absurd p

module _ (s : State) (e : Event) (os os' : List Order) (a : AreSettled s e os) (b : AreSettled s e os') where
  same_words : map dialogue_word_of os ≡ map dialogue_word_of os'
  same_words = same (mid s e).engine (mid s e).epoch (owed_after s e) (turn_of_event s e).waiting (is_due s.dialogue (turn_of_event s e)) (is_ponder_hit s.dialogue (turn_of_event s e)) (is_move_now (turn_of_event s e).what) (map dialogue_word_of os) (map dialogue_word_of os') a.words b.words

  by_go : (due go : Bool) → is_due s.dialogue (turn_of_event s e) ≡ due → has_go (map dialogue_word_of os) ≡ go → os ≡ os'
  by_go true go d g = a.batch d ∙ sym (b.batch d)
  by_go false true d g = a.search g ∙ sym (b.search (ap has_go (sym same_words) ∙ g))
  by_go false false d g =
      sym (plain os (a.words.no_batch d) g a.words.paired)
      ∙ ap (map order_of) same_words
      ∙ plain os' (b.words.no_batch d) (ap has_go (sym same_words) ∙ g) b.words.paired

  pub same_orders : os ≡ os'
  same_orders = by_go (is_due s.dialogue (turn_of_event s e)) (has_go (map dialogue_word_of os)) refl refl

same_step : (s : State) (e : Event) (rs rs' : List Reply) (os os' : List Order) (opens before after : Bool) → is_open e ≡ opens → s.ends.closed ≡ before → closed_after s e ≡ after
    → IsLawfulStep s (record { event = e; replies = rs; orders = os }) → IsLawfulStep s (record { event = e; replies = rs'; orders = os' }) → os ≡ os'
same_step s e rs rs' os os' true before after o c n a b = a.opens o ∙ sym (b.opens o)
same_step s e rs rs' os os' false true after o c n a b = a.closed o c ∙ sym (b.closed o c)
same_step s e rs rs' os os' false false true o c n a b = a.closes c n ∙ sym (b.closes c n)
same_step s e rs rs' os os' false false false o c n a b = same_orders s e os os' (a.settled o n) (b.settled o n)

step_is : (e : Event) (rs rs' : List Reply) (os os' : List Order) → rs ≡ rs' → os ≡ os' → (let x : Step = record { event = e; replies = rs; orders = os } in x) ≡ record { event = e; replies = rs'; orders = os' }
step_is e rs rs' os os' p q = ap (λ (x : List Reply). let y : Step = record { event = e; replies = x; orders = os } in y) p ∙ ap (λ (x : List Order). let y : Step = record { event = e; replies = rs'; orders = x } in y) q

one_step : (s : State) (x y : Step) → x.event ≡ y.event → IsLawfulStep s x → IsLawfulStep s y → x ≡ y
one_step s x y p a b =
    let b' : IsLawfulStep s (record { event = x.event; replies = y.replies; orders = y.orders }) = subst (λ (e : Event). IsLawfulStep s (record { event = e; replies = y.replies; orders = y.orders })) (sym p) b in
    step_is x.event x.replies y.replies x.orders y.orders (a.replies ∙ sym b'.replies)
    (same_step s x.event x.replies y.replies x.orders y.orders (is_open x.event) s.ends.closed (closed_after s x.event) refl refl refl a b')
    ∙ ap (λ (e : Event). let z : Step = record { event = e; replies = y.replies; orders = y.orders } in z) p

pub unique : (o : Settings) → IsOneDialogue o
unique o [] [] a b e = refl
unique o [] (y ∷ t') a b e = cc
unique o (x ∷ t) [] a b e = cc
unique o (x ∷ t) (y ∷ t') a b e =
    let head : x.event ≡ y.event = cc in
    let tail : map event_of_step t ≡ map event_of_step t' = cc in
    let rest = unique o t t' a.0 b.0 tail in
    let b' : IsLawfulStep (state o t) y = subst (λ (r : List Step). IsLawfulStep (state o r) y) (sym rest) b.1 in
    ap (λ (z : Step). z ∷ t) (one_step (state o t) x y head a.1 b') ∙ ap (λ (r : List Step). y ∷ r) rest
