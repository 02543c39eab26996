-- The orders of a step after which the session is open.
use Rattle.std.proofs.Common.{◌≡◌, ℕ, ◌+◌, ◌≤◌, List, [], ◌∷◌, map, Bool, true, false, cond, ◌||◌, Option, Some, None, refl, sym, ap, subst, ◌∙◌, arith}
use Rattle.std.specs.Prelude.{IfSome}
use Rattle.std.specs.List.{join_with_byte}
use Rattle.line_io.specs.Event.{Event}
use Rattle.chess_board.specs.declared.board.Side.{Side}
use Rattle.chess_board.specs.declared.board.Side.TheVariants.{White, Black}
use Rattle.chess_board.specs.declared.board.Move.{Move}
use Rattle.chess_board.specs.Position.{Position as Place}
use Rattle.protocol_tokens.specs.declared.kinds.GoKind.{GoKind}
use Rattle.protocol_tokens.specs.declared.kinds.GoKind.TheVariants as kinds
use Rattle.cecp_lines.specs.Messages as says
use Rattle.uci_lines.specs.declared.orders.GoControl.TheVariants.{Infinite}
use Rattle.uci_lines.specs.Orders.{Order}
use Rattle.game_record.specs.Game.{Ply, Game, ply_of, with_ply, IsPlayablePly, current_position}
use Rattle.game_record.specs.Line.{ply_text}
use Rattle.clock_map.specs.declared.clocks.Clocks.{Clocks}
use Rattle.clock_map.specs.declared.clocks.Control.{Control}
use Rattle.clock_map.specs.declared.clocks.Control.TheVariants.{Session, Fixed}
use Rattle.clock_map.specs.declared.request.SearchRequest.{SearchRequest}
use Rattle.clock_map.specs.Search.{search_order, order_by_kind, time_of}
use Rattle.policy_rules.specs.declared.setting_rules.settings.Settings.{Settings}
use Rattle.search_epochs.specs.declared.words.Call.{Call}
use Rattle.search_epochs.specs.declared.words.Call.TheVariants as calls
use Rattle.search_epochs.specs.Tickets as talks
use Rattle.search_epochs.specs.Tickets.{Engine, Word, Ticketed, TicketWithin, MaySendAll, said_of_event, sent_all, is_call_spent, has_go, has_hit, is_ponder_hit, is_move, kind_of}
use Rattle.desk_rules.specs.declared.desk.Desk.{Desk}
use Rattle.desk_rules.specs.Desk.{Situation, is_gone}
use Rattle.desk_rules.specs.Steps.{Effect, Accepts, desk_after_effect, searched_by, is_death}
use Rattle.desk_rules.specs.Orders.{go_kind_named, dialogue_word_of, start_of, searched, search_request, search_orders}
use Rattle.desk_rules.specs.Fits.{DeskInvariant}
use Rattle.desk_rules.proofs.Hints.{hint_kept, call_hint}
use Rattle.desk_rules.proofs.Sound.{step_sound}
use Rattle.adapter_core.specs.Ends.{is_open}
use Rattle.adapter_core.specs.Trace.{State, Step, LawfulTrace, AreSettled, state, trace_state_after, situation_of_state, effect, turn_of_event, mid, owed_after, closed_after, desk_of}
use Rattle.adapter_core.proofs.Traces.{lasts, fits}
use Rattle.adapter_core.proofs.Square.{for_owed}
use Rattle.session_judge.specs.declared.dialogue_event.OrderKind.TheVariants as hears
use Rattle.session_judge.specs.declared.talk.JudgedTalk.{JudgedTalk}
use Rattle.session_judge.specs.DialogueEvents.{end_of}
use Rattle.judge_and_driver_laws.specs.Judge.Logs.{OpenSearchIsAt, engine_mark}
use Rattle.judge_and_driver_laws.proofs.Judge.Runs.{Runs, more_runs}
use Rattle.judge_and_driver_laws.proofs.Judge.Texts.{as_order, kind_heard}
use Rattle.judge_and_driver_laws.proofs.Judge.Writes.{Shows as Told, Agrees, plain_runs, search_runs}
use Rattle.trace_laws.proofs.Games.{IsGame, played_is, effect_is}
use Rattle.trace_laws.proofs.Stays.{game_kept, heard_search, sent_search, hits_so, hit_plays, hit_game, hit_hint, searched_now}
use Rattle.judge_and_driver_laws.proofs.Judge.Games.{line_leads}

-- THE ORDERS FOR A SEARCH

clock_kind : (c : Control) (clocks : Clocks) (side : Side) (n margin : ℕ) → go_kind_named false (time_of c clocks side n margin) ≡ kinds.Move
clock_kind Session clocks White n margin = refl
clock_kind Session clocks Black n margin = refl
clock_kind (Fixed time) clocks side n margin = refl

go_heard : (k : GoKind) (r : SearchRequest) (clocks : Clocks) → as_order (order_by_kind k r clocks) ≡ hears.Go k
go_heard kinds.Move r clocks = ap hears.Go (kind_heard false (time_of clocks.control clocks r.side r.plies r.settings.time_margin) _ ∙ clock_kind clocks.control clocks r.side r.plies r.settings.time_margin)
go_heard kinds.Ponder r clocks = ap hears.Go (kind_heard true (time_of clocks.control clocks r.side r.plies r.settings.time_margin) _)
go_heard kinds.Analyse r clocks = ap hears.Go (kind_heard false Infinite None)

-- the searched position: a game, which stands where a search of this kind searches
record IsSearched (d : Desk) (c : Call) : Type 0 where
  game : IsGame (searched d.game c)
  same : current_position (searched d.game c) ≡ current_position (searched_by (kind_of c) d.game d.hint)

hint_playable : (d : Desk) (o : Option Move) (g : Move) → d.hint ≡ o → o ≡ Some g → IfSome o (λ m. IsPlayablePly (current_position d.game) (ply_of m)) → IsPlayablePly (current_position d.game) (ply_of g)
hint_playable d None g e x p = absurd (cc)
hint_playable d (Some m) g e x p = let same : m ≡ g = cc in subst (λ (y : Move). IsPlayablePly (current_position d.game) (ply_of y)) same p

is_searched : (d : Desk) (c : Call) → IsGame d.game → DeskInvariant d → ((g : Move) → c ≡ calls.Ponder g → d.hint ≡ Some g) → IsSearched d c
is_searched d calls.Nothing i s f = record { game = i; same = refl }
is_searched d calls.Move i s f = record { game = i; same = refl }
is_searched d calls.Analyse i s f = record { game = i; same = refl }
is_searched d (calls.Ponder g) i s f =
    let e = f g refl in
    record { game = played_is d.game g i (hint_playable d d.hint g refl e s.hint); same = ap (λ (o : Option Move). current_position (searched_by kinds.Ponder d.game o)) (sym e) }

module _ (o : Settings) (step : Step) (trace : List Step) (l : LawfulTrace o (step ∷ trace)) (i : IsGame (state o trace).desk.game) where
  abbrev s : State
  s = state o trace

  abbrev ev : Event
  ev = step.event

  abbrev h : Situation
  h = situation_of_state s

  abbrev d : Effect
  d = effect s ev

  abbrev m : Ticketed
  m = mid s ev

  abbrev ws : List Word
  ws = map dialogue_word_of step.orders

  abbrev next : State
  next = trace_state_after s step

  game_after : IsGame (desk_of s ev).game
  game_after = effect_is h s.held d (fits s step (lasts o trace l.0) l.1) i

  sound_after : DeskInvariant (desk_of s ev)
  sound_after = step_sound (closed_after s ev) (is_move (owed_after s ev)) (is_ponder_hit s.dialogue (turn_of_event s ev)) h s.held d (lasts o trace l.0).sound (fits s step (lasts o trace l.0) l.1)

  searched_here : IsSearched (desk_of s ev) (owed_after s ev)
  searched_here =
      is_searched (desk_of s ev) (owed_after s ev) game_after sound_after
      (λ g e. call_hint (closed_after s ev) (is_gone h.engine || is_death d) (desk_after_effect h d) g (for_owed (is_call_spent m) (turn_of_event s ev).call g e))

  -- the talk after the orders
  abbrev Follows : JudgedTalk → Type 0
  Follows t = (p : Place) × Agrees t next.dialogue.engine p × OpenSearchIsAt next p

  begun_at : (k k' : GoKind) (n : ℕ) (st : Bool) (q : Place) (x : Desk) → talks.Search k n false ≡ talks.Search k' n st → q ≡ current_position (searched_by k x.game x.hint) → q ≡ current_position (searched_by k' x.game x.hint)
  begun_at k k' n st q x e f = let same : k ≡ k' = cc in f ∙ ap (λ (y : GoKind). current_position (searched_by y x.game x.hint)) same

  begins : (t : JudgedTalk) (p : Place) → AreSettled s ev step.orders → has_go ws ≡ true → Agrees t m.engine p → Runs t (map engine_mark step.orders) Follows
  begins t p a g b =
      let c = owed_after s ev in
      let x = desk_of s ev in
      let words = (a.words.go g).0 in
      let is : step.orders ≡ search_orders s.settings x c = a.search g in
      let idle : m.engine ≡ talks.Idle = (subst (MaySendAll m.epoch m.engine) words a.words.may_send).0 in
      let q = line_leads (searched x.game c) searched_here.game in
      let last : sent_all m.epoch m.engine ws ≡ talks.Search (kind_of c) m.epoch false =
      ap (sent_all m.epoch m.engine) words ∙ ap (λ (y : Engine). sent_all m.epoch y (talks.Position ∷ talks.Go (kind_of c) ∷ [])) idle in
      let runs = search_runs m.epoch (start_of (searched x.game c).start) (join_with_byte 32 (map ply_text (searched x.game c).moves)) (search_order (search_request s.settings x.game c) x.clocks) (kind_of c) t p q.0.end
      (record { engine = subst (Told t) idle b.engine; stage = b.stage; placed = b.placed })
      (ap (λ y. hears.Position (end_of y)) q.1)
      (go_heard (kind_of c) (search_request s.settings x.game c) x.clocks) in
      subst (λ (os : List Order). Runs t (map engine_mark os) Follows) (sym is)
      (more_runs t (map engine_mark (search_orders s.settings x c)) (λ u. Agrees u (talks.Search (kind_of c) m.epoch false) q.0.end) Follows runs (λ u w. (
        q.0.end,
        subst (λ (y : Engine). Agrees u y q.0.end) (sym last) w,
        λ k' st e. begun_at (kind_of c) k' m.epoch st q.0.end x (sym last ∙ e) (q.2 ∙ searched_here.same),
      )))

  -- the position of the search that goes on
  stays_at : (p : Place) → AreSettled s ev step.orders → has_go ws ≡ false → OpenSearchIsAt s p → (hit : Bool) → has_hit ws ≡ hit → OpenSearchIsAt next p
  stays_at p a g f true y k st e =
      let x = hits_so s.dialogue (turn_of_event s ev) (sym a.words.hit ∙ y) in
      let b = hit_plays h d x.hint in
      let desk = desk_after_effect h (Accepts (says.UserMove b.move)) in
      f kinds.Ponder false x.engine
      ∙ ap (λ (z : Option Move). current_position (searched_by kinds.Ponder s.desk.game z)) b.hint_is
      ∙ ap (λ (z : Ply). current_position (with_ply s.desk.game z)) b.same
      ∙ ap current_position (sym (hit_game h b.move))
      ∙ ap current_position (sym (searched_now k desk.game))
      ∙ ap (λ (z : Option Move). current_position (searched_by k desk.game z)) (sym (hit_hint h b.move))
      ∙ ap (λ (z : Effect). current_position (searched_by k (desk_after_effect h z).game (desk_after_effect h z).hint)) (sym b.effect_is)
  stays_at p a g f false y k st e =
      let r = sent_search m.epoch m.engine ws k m.epoch st g y e in
      let before = heard_search s.dialogue.engine (said_of_event (turn_of_event s ev).what) k m.epoch r.0 r.1 in
      let within = subst (TicketWithin s.dialogue.epoch) before (lasts o trace l.0).ticket in
      by_rise (turn_of_event s ev).begins_epoch refl r.0 before within
    where
      by_rise : (b : Bool) → (turn_of_event s ev).begins_epoch ≡ b → (st' : Bool) → s.dialogue.engine ≡ talks.Search k m.epoch st' → m.epoch ≤ s.dialogue.epoch → p ≡ current_position (searched_by k (desk_of s ev).game (desk_of s ev).hint)
      by_rise true b st' x w =
          let n : m.epoch ≡ s.dialogue.epoch + 1 = ap (λ z. cond z (s.dialogue.epoch + 1) s.dialogue.epoch) b in
          absurd (omega (arith, n, w))
      by_rise false b st' x w =
          let n : m.epoch ≡ s.dialogue.epoch = ap (λ z. cond z (s.dialogue.epoch + 1) s.dialogue.epoch) b in
          f k st' (x ∙ ap (λ z. talks.Search k z st') n)
          ∙ ap (λ (z : Game). current_position (searched_by k z s.desk.hint)) (sym (game_kept h d b))
          ∙ ap (λ (z : Option Move). current_position (searched_by k (desk_of s ev).game z)) (sym (hint_kept h d b))

  goes_on_so : (t : JudgedTalk) (p : Place) → AreSettled s ev step.orders → has_go ws ≡ false → OpenSearchIsAt s p → Agrees t m.engine p → Runs t (map engine_mark step.orders) Follows
  goes_on_so t p a g f b =
      more_runs t (map engine_mark step.orders) (λ u. Agrees u (sent_all m.epoch m.engine ws) p) Follows
      (plain_runs m.epoch m.engine step.orders t p b a.words.may_send a.words.paired g a.words.no_quit)
      (λ u w. (p, w, stays_at p a g f (has_hit ws) refl))

  pub settles : (t : JudgedTalk) (p : Place) → is_open ev ≡ false → closed_after s ev ≡ false → OpenSearchIsAt s p → Agrees t m.engine p → Runs t (map engine_mark step.orders) Follows
  settles t p n c f b = by_go (has_go ws) refl where
    by_go : (g : Bool) → has_go ws ≡ g → Runs t (map engine_mark step.orders) Follows
    by_go true g = begins t p (l.1.settled n c) g b
    by_go false g = goes_on_so t p (l.1.settled n c) g f b
