-- The position that is searched is the desk's.
use Rattle.std.proofs.Common.{◌≡◌, ℕ, ◌+◌, ◌≤◌, List, [], ◌∷◌, map, Bool, true, false, cond, ◌||◌, Option, Some, refl, sym, ap, subst, ◌∙◌, arith}
use Rattle.line_io.specs.Event.{Event}
use Rattle.chess_board.specs.declared.board.Move.{Move}
use Rattle.protocol_tokens.specs.declared.kinds.GoKind.{GoKind}
use Rattle.protocol_tokens.specs.declared.kinds.GoKind.TheVariants as kinds
use Rattle.cecp_lines.specs.Messages as says
use Rattle.uci_lines.specs.Orders.{Order}
use Rattle.uci_lines.specs.Orders as orders
use Rattle.game_record.specs.Game.{Ply, Game, with_ply}
use Rattle.clock_map.specs.declared.clocks.Clocks.{Clocks}
use Rattle.clock_map.specs.declared.request.SearchRequest.{SearchRequest}
use Rattle.clock_map.specs.Search.{order_by_kind}
use Rattle.policy_rules.specs.declared.setting_rules.settings.Settings.{Settings}
use Rattle.search_epochs.specs.declared.words.Call.{Call}
use Rattle.search_epochs.specs.declared.words.Call.TheVariants as calls
use Rattle.search_epochs.specs.Tickets as talks
use Rattle.search_epochs.specs.Tickets.{Engine, Ticketed, TicketWithin, MaySendAll, Paired, Word, engine_after_heard, said_of_event, sent_all, is_call_spent, has_go, has_hit, kind_of}
use Rattle.desk_rules.specs.declared.desk.Desk.{Desk}
use Rattle.desk_rules.specs.Desk.{Situation, is_gone}
use Rattle.desk_rules.specs.Steps.{Effect, Accepts, desk_after_effect, searched_by, is_death}
use Rattle.desk_rules.specs.Orders.{dialogue_word_of, searched, search_request, position_order}
use Rattle.desk_rules.proofs.Hints.{hint_kept, call_hint}
use Rattle.adapter_core.specs.Ends.{is_open}
use Rattle.adapter_core.specs.Shown.{AnswersWithMove}
use Rattle.adapter_core.specs.Trace.{State, Step, LawfulTrace, AreSettled, state, trace_state_after, situation_of_state, effect, turn_of_event, mid, owed_after, closed_after, desk_of}
use Rattle.adapter_core.proofs.Closing.{open_before}
use Rattle.adapter_core.proofs.Shown.{shown}
use Rattle.adapter_core.proofs.Square.{for_owed}
use Rattle.adapter_core.proofs.Traces.{lasts}
use Rattle.trace_laws.specs.Searched.{position_order_after, last_position, OpenSearchHas, SearchesAreTheDesks, MovesAnswerTheDesk}
use Rattle.trace_laws.proofs.Heard.{event_heard}
use Rattle.trace_laws.proofs.Places.{opening_may, opening_says}
use Rattle.trace_laws.proofs.Stays.{game_kept, heard_search, sent_search, hits_so, hit_plays, hit_game, hit_hint, searched_now}

-- THE LAST POSITION

-- without a `go` no `position` is written
no_position : (last : Option Order) (os : List Order) → Paired (map dialogue_word_of os) → has_go (map dialogue_word_of os) ≡ false → position_order_after last os ≡ last
no_position last [] a g = refl
no_position last (orders.Position start moves ∷ orders.Go ponder control depth ∷ os) a g = absurd (cc)
no_position last (orders.Position start moves ∷ os) a g = absurd a
no_position last (orders.Go ponder control depth ∷ os) a g = absurd (cc)
no_position last (order ∷ os) a g = no_position last os a g

-- a search is no `position`
search_last : (last : Option Order) (k : GoKind) (r : SearchRequest) (clocks : Clocks) → position_order_after last (order_by_kind k r clocks ∷ []) ≡ last
search_last last kinds.Move r clocks = refl
search_last last kinds.Ponder r clocks = refl
search_last last kinds.Analyse r clocks = refl

-- what is searched, by the hint
searched_is : (d : Desk) (c : Call) → ((g : Move) → c ≡ calls.Ponder g → d.hint ≡ Some g) → searched d.game c ≡ searched_by (kind_of c) d.game d.hint
searched_is d calls.Nothing f = refl
searched_is d calls.Move f = refl
searched_is d calls.Analyse f = refl
searched_is d (calls.Ponder g) f = ap (searched_by kinds.Ponder d.game) (sym (f g refl))

same_kind : (d : Desk) (k k' : GoKind) (n : ℕ) (st : Bool) → talks.Search k n false ≡ talks.Search k' n st → searched_by k d.game d.hint ≡ searched_by k' d.game d.hint
same_kind d k k' n st e = let same : k ≡ k' = cc in ap (λ (y : GoKind). searched_by y d.game d.hint) same

module _ (o : Settings) (step : Step) (trace : List Step) (l : LawfulTrace o (step ∷ trace)) where
  abbrev s : State
  s = state o trace

  abbrev ev : Event
  ev = step.event

  abbrev h : Situation
  h = situation_of_state s

  abbrev d : Effect
  d = effect s ev

  abbrev m : Ticketed
  m = mid s ev

  abbrev ws : List Word
  ws = map dialogue_word_of step.orders

  abbrev next : State
  next = trace_state_after s step

  -- at the opening the engine boots
  boots : is_open ev ≡ true → next.dialogue.engine ≡ talks.Boot
  boots n =
      let none = (lasts o trace l.0).begins (opening_may s ev n l.1.may_come) in
      let unheard : m.engine ≡ talks.Boot = event_heard s ev ∙ ap (engine_after_heard s.dialogue.engine) (opening_says s.ends.closed ev n) ∙ none in
      ap (λ (os : List Order). sent_all m.epoch m.engine (map dialogue_word_of os)) (l.1.opens n) ∙ ap (λ (y : Engine). sent_all m.epoch y (talks.Uci ∷ [])) unheard

  searched_now_is : searched (desk_of s ev).game (owed_after s ev) ≡ searched_by (kind_of (owed_after s ev)) (desk_of s ev).game (desk_of s ev).hint
  searched_now_is =
      searched_is (desk_of s ev) (owed_after s ev)
      (λ g e. call_hint (closed_after s ev) (is_gone h.engine || is_death d) (desk_after_effect h d) g (for_owed (is_call_spent m) (turn_of_event s ev).call g e))

  -- a search that begins
  begins : (last : Option Order) → AreSettled s ev step.orders → has_go ws ≡ true → OpenSearchHas next (position_order_after last step.orders)
  begins last a g k st e =
      let c = owed_after s ev in
      let x = desk_of s ev in
      let words = (a.words.go g).0 in
      let p : Option Order = Some (position_order (searched x.game c)) in
      let idle : m.engine ≡ talks.Idle = (subst (MaySendAll m.epoch m.engine) words a.words.may_send).0 in
      let begun : next.dialogue.engine ≡ talks.Search (kind_of c) m.epoch false =
      ap (sent_all m.epoch m.engine) words ∙ ap (λ (y : Engine). sent_all m.epoch y (talks.Position ∷ talks.Go (kind_of c) ∷ [])) idle in
      let written : position_order_after last step.orders ≡ p = ap (position_order_after last) (a.search g) ∙ search_last p (kind_of c) (search_request s.settings x.game c) x.clocks in
      written
      ∙ ap (λ (y : Game). let z : Option Order = Some (position_order y) in z) (searched_now_is ∙ same_kind x (kind_of c) k m.epoch st (sym begun ∙ e))

  abbrev Has : Option Order → GoKind → Game → Option Move → Type 0
  Has last k game hint = last ≡ Some (position_order (searched_by k game hint))

  -- a search that goes on
  stays_at : (last : Option Order) → AreSettled s ev step.orders → has_go ws ≡ false → OpenSearchHas s last → (hit : Bool) → has_hit ws ≡ hit → OpenSearchHas next last
  stays_at last a g f true y k st e =
      let x = hits_so s.dialogue (turn_of_event s ev) (sym a.words.hit ∙ y) in
      let b = hit_plays h d x.hint in
      let desk = desk_after_effect h (Accepts (says.UserMove b.move)) in
      f kinds.Ponder false x.engine
      ∙ ap (λ (z : Option Move). let w : Option Order = Some (position_order (searched_by kinds.Ponder s.desk.game z)) in w) b.hint_is
      ∙ ap (λ (z : Ply). let w : Option Order = Some (position_order (with_ply s.desk.game z)) in w) b.same
      ∙ ap (λ (z : Game). let w : Option Order = Some (position_order z) in w)
      (sym (hit_game h b.move) ∙ sym (searched_now k desk.game)
      ∙ ap (λ (z : Option Move). searched_by k desk.game z) (sym (hit_hint h b.move))
      ∙ ap (λ (z : Effect). searched_by k (desk_after_effect h z).game (desk_after_effect h z).hint) (sym b.effect_is))
  stays_at last a g f false y k st e =
      let r = sent_search m.epoch m.engine ws k m.epoch st g y e in
      let before = heard_search s.dialogue.engine (said_of_event (turn_of_event s ev).what) k m.epoch r.0 r.1 in
      let within = subst (TicketWithin s.dialogue.epoch) before (lasts o trace l.0).ticket in
      by_rise (turn_of_event s ev).begins_epoch refl r.0 before within
    where
      by_rise : (b : Bool) → (turn_of_event s ev).begins_epoch ≡ b → (st' : Bool) → s.dialogue.engine ≡ talks.Search k m.epoch st' → m.epoch ≤ s.dialogue.epoch → Has last k (desk_of s ev).game (desk_of s ev).hint
      by_rise true b st' x w =
          let n : m.epoch ≡ s.dialogue.epoch + 1 = ap (λ z. cond z (s.dialogue.epoch + 1) s.dialogue.epoch) b in
          absurd (omega (arith, n, w))
      by_rise false b st' x w =
          let n : m.epoch ≡ s.dialogue.epoch = ap (λ z. cond z (s.dialogue.epoch + 1) s.dialogue.epoch) b in
          f k st' (x ∙ ap (λ z. talks.Search k z st') n)
          ∙ ap (λ (z : Game). let w : Option Order = Some (position_order (searched_by k z s.desk.hint)) in w) (sym (game_kept h d b))
          ∙ ap (λ (z : Option Move). let w : Option Order = Some (position_order (searched_by k (desk_of s ev).game z)) in w) (sym (hint_kept h d b))

  settles : (last : Option Order) → AreSettled s ev step.orders → OpenSearchHas s last → OpenSearchHas next (position_order_after last step.orders)
  settles last a f = by_go (has_go ws) refl where
    by_go : (g : Bool) → has_go ws ≡ g → OpenSearchHas next (position_order_after last step.orders)
    by_go true g = begins last a g
    by_go false g = subst (OpenSearchHas next) (sym (no_position last step.orders a.words.paired g)) (stays_at last a g f (has_hit ws) refl)

  searched_after : (last : Option Order) → closed_after s ev ≡ false → (s.ends.closed ≡ false → OpenSearchHas s last) → OpenSearchHas next (position_order_after last step.orders)
  searched_after last c f = by_open (is_open ev) refl where
    by_open : (b : Bool) → is_open ev ≡ b → OpenSearchHas next (position_order_after last step.orders)
    by_open true n = λ k st e. let x = boots n in absurd (cc)
    by_open false n = settles last (l.1.settled n c) (f (open_before s.ends ev c))

-- EACH TRACE

pub searches_are : (o : Settings) → SearchesAreTheDesks o
searches_are o [] l c = λ k st e. absurd (cc)
searches_are o (step ∷ trace) l c = searched_after o step trace l (last_position trace) c (searches_are o trace l.0)

pub moves_answer : (o : Settings) → MovesAnswerTheDesk o
moves_answer o step trace best l c =
    let a : AnswersWithMove (state o trace) step.event best = (shown o step trace l best).0 c in
    searches_are o trace l.0 a.is_open kinds.Move a.stopped a.current
