use Rattle.std.proofs.Common.{◌≡◌, ◌≤◌, Bool, [], length, cond, ◌&&◌, ◌||◌, not, true, false, refl, sym, ap, subst, ◌∙◌, arith, length-append}
use Rattle.game_record.specs.Game.{Game}
use Rattle.search_epochs.specs.Tickets.{is_move_now, is_move}
use Rattle.search_epochs.specs.Dialogue.{played_of}
use Rattle.desk_rules.specs.declared.desk.Desk.{Desk}
use Rattle.line_io.specs.Event.{event_of}
use Rattle.line_io.specs.Out.{Text, empty, with}
use Rattle.option_map.specs.FeatureLists.Features.{reply_lines}
use Rattle.search_epochs.specs.declared.words.EngineState.{EngineState}
use Rattle.search_epochs.specs.declared.words.Orders.{Orders}
use Rattle.search_epochs.specs.declared.words.Orders.TheVariants as chosen
use Rattle.search_epochs.specs.Dialogue.{after_settled, is_hit_order, is_unfenced, settle}
use Rattle.desk_rules.specs.Desk.{at, call_of_desk, is_gone}
use Rattle.desk_rules.specs.Replies.{reply_row, repeated_thinking}
use Rattle.desk_rules.specs.Steps.{effect_of, what_of, is_death}
use Rattle.desk_rules.specs.Fits.{IsHintPlayable, ChosenOrdersCanBeWritten}
use Rattle.adapter_core.proofs.Writes.{call_search, settled_writes}
use Rattle.desk_rules.specs.Texts.{order_lines}
use Rattle.adapter_core.specs.Parts.{is_step_unsent, step_orders, seen_call}
use Rattle.adapter_core.proofs.SeenCalls.{seen_owes, seen_settles}
use Rattle.adapter_core.proofs.Resigns.{went_on}
use Rattle.adapter_core.proofs.Repeats.{hit_rows, repeated_fits, none_again}
use Rattle.adapter_core.proofs.session.CoreParts.go_on.Goals as goal
use Rattle.adapter_core.proofs.session.CoreParts.go_on.Goals.{then-is_gone, else-is_gone, then-event_effect, else-event_effect}

pub put_orders-requires-clause-search : goal.put_orders-requires-clause-search
put_orders-requires-clause-search c =
    let d = c.commit.new.self in
    let w = what_of (effect_of c.args.event_effect.now.effect) in
    let hint : IsHintPlayable d = subst IsHintPlayable (sym c.commit.ensures.desk) c.requires.follow.sound_then.hint in
    let v = c.args.self.now.dialogue in
    let call = call_of_desk c.after-self.result.closed c.if-is_gone.stage d in
    let rests = c.is_open.result || c.after-self.result.closed in
    let waits = is_step_unsent c.args.self.now.held (effect_of c.args.event_effect.now.effect) in
    let fences = c.args.context.settings.fence_stops in
    let written = settled_writes d.game v call rests (waits || (fences && is_unfenced v call)) (played_of w) (is_move_now w) (call_search _ _ d hint) in
    let search_info = c.seen_call-call.ensures ∙ ap (λ (e : EngineState). seen_call e call) c.state.ensures.value in
    let settles =
    ap (λ (b : Bool). settle v c.seen_call-call.result b (played_of w) (is_move_now w)) c.is_unsent-unsent.ensures
    ∙ seen_settles v c.seen_call-call.result call waits fences (played_of w) (is_move_now w) search_info in
    let writes : ChosenOrdersCanBeWritten d.game c.choose-orders.result = subst (ChosenOrdersCanBeWritten d.game) (sym (c.choose-orders.ensures.orders ∙ ap (cond rests chosen.None) settles)) written in
    subst (λ (g : Game). ChosenOrdersCanBeWritten g c.choose-orders.result) (sym (ap (λ (x : Desk). x.game) c.finish.ensures.desk ∙ ap (λ (x : Desk). x.game) c.resign_when_gone.ensures.desk)) writes

either_so : (s r g d : Bool) → s ≡ r → r ≡ true → r ≡ g → s ≡ (g || d)
either_so s r g d q t e = q ∙ t ∙ ap (λ (b : Bool). b || d) (sym t ∙ e)

or_else : (s x r g d : Bool) → s ≡ x → x ≡ d → r ≡ false → r ≡ g → s ≡ (g || d)
or_else s x r g d q f t e = q ∙ f ∙ ap (λ (b : Bool). b || d) (sym t ∙ e)

gone_is : (c : goal.After-release) → c.if-is_gone.stage ≡ (is_gone c.args.context.engine || is_death (effect_of c.args.event_effect.now.effect))
gone_is c =
    let died = is_death (effect_of c.args.event_effect.now.effect) in
    let gone = is_gone c.args.context.engine in
    elim c.if-is_gone.branch [
      | then-is_gone w ↦ either_so c.if-is_gone.stage c.is_gone.result gone died w.stage-is w.if-is_gone.true c.is_gone.ensures
      | else-is_gone w ↦ or_else c.if-is_gone.stage w.is_death.result c.is_gone.result gone died w.stage-is w.is_death.ensures w.if-is_gone.false c.is_gone.ensures
    ]

clears_is : (c : goal.After-release) → c.if-event_effect.clears ≡ (c.args.event_effect.now.begins_epoch && not c.is_hit-hits.result)
clears_is c =
    let hit = c.is_hit-hits.result in
    elim c.if-event_effect.branch [
      | then-event_effect w ↦ w.clears-is ∙ ap (λ (b : Bool). b && not hit) (sym w.if-event_effect.true)
      | else-event_effect w ↦ w.clears-is ∙ w.if-event_effect.false ∙ ap (λ (b : Bool). b && not hit) (sym w.if-event_effect.false)
    ]

pub returns-clause-after : goal.returns-clause-after
returns-clause-after c =
    let v = c.args.self.now.dialogue in
    let w = what_of (effect_of c.args.event_effect.now.effect) in
    let call = call_of_desk c.after-self.result.closed c.if-is_gone.stage c.commit.new.self in
    let rests = c.is_open.result || c.after-self.result.closed in
    let search_info = c.seen_call-call.ensures ∙ ap (λ (e : EngineState). seen_call e call) c.state.ensures.value in
    let waits = is_step_unsent c.args.self.now.held (effect_of c.args.event_effect.now.effect) in
    let fences = c.args.context.settings.fence_stops in
    let settles =
    ap (λ (b : Bool). settle v c.seen_call-call.result b (played_of w) (is_move_now w)) c.is_unsent-unsent.ensures
    ∙ seen_settles v c.seen_call-call.result call waits fences (played_of w) (is_move_now w) search_info in
    went_on c.args.context c.args.self.now (effect_of c.args.event_effect.now.effect) (event_of c.args.event.now) c.after-self.result c.is_open.result c.if-is_gone.stage c.args.event_effect.now.begins_epoch c.is_move-owes.result (waits || (fences && is_unfenced v call))
    c.is_hit-hits.result c.if-event_effect.clears c.count.new.scores c.commit.new.self c.resign_when_gone.new.self c.finish.new.self call c.choose-orders.new.dialogue c.choose-orders.result c.commit.new.out c.resign_when_gone.new.out c.repeat_thinking.new.out
    c.finish.new.out c.put_orders.new.out c.release.new.held
    c.is_open.ensures c.after-self.ensures (gone_is c) c.requires.epoch c.count.ensures c.commit.ensures.desk
    (c.commit.ensures.lines ∙ ap (λ (t : Text). with t (reply_lines (cond c.after-self.result.closed [] (reply_row (at c.args.context c.args.self.now.desk) (effect_of c.args.event_effect.now.effect))))) c.requires.to_iface)
    refl (c.is_move-owes.ensures ∙ ap is_move c.owed.ensures.value ∙ seen_owes v c.seen_call-call.result call search_info) refl
    (c.choose-orders.ensures.orders ∙ ap (cond rests chosen.None) settles) (c.choose-orders.ensures.after ∙ ap (λ (o : Orders). after_settled v (cond rests chosen.None o)) settles) c.is_hit-hits.ensures (clears_is c) c.resign_when_gone.ensures.lines c.resign_when_gone.ensures.desk c.repeat_thinking.ensures.lines
    c.finish.ensures.lines c.finish.ensures.desk
    (c.put_orders.ensures.orders ∙ ap (λ (t : Text). with t (order_lines (step_orders c.args.context.settings c.is_open.result c.args.self.now.ends.closed c.after-self.result.closed c.if-is_gone.stage c.args.self.now.held c.finish.new.self c.choose-orders.result))) (c.requires.to_engine ∙ ap empty (sym (ap (λ (t : Text). t.room) c.requires.to_engine))))
    c.release.ensures (ap (λ (t : Text). t.room) c.requires.to_iface)

pub repeat_thinking-requires : goal.repeat_thinking-requires
repeat_thinking-requires c = record {
  room = λ e. (
      let w = what_of (effect_of c.args.event_effect.now.effect) in
      let text = ap (λ (t : Text). t.text) (c.commit.ensures.lines ∙ ap (λ (t : Text). with t (reply_lines (cond c.after-self.result.closed [] (reply_row (at c.args.context c.args.self.now.desk) (effect_of c.args.event_effect.now.effect))))) c.requires.to_iface) in
      let row =
      hit_rows c.choose-orders.result (c.is_open.result || c.after-self.result.closed) c.after-self.result.closed c.args.self.now.dialogue c.seen_call-call.result c.is_unsent-unsent.result (is_move_now w) (at c.args.context c.args.self.now.desk)
      (effect_of c.args.event_effect.now.effect) c.commit.new.out.text c.choose-orders.ensures.orders text (sym c.is_hit-hits.ensures ∙ e) in
      omega (arith, row, c.resign_when_gone.ensures.room, ap (λ (t : Text). t.room) c.resign_when_gone.ensures.lines, ap (λ (t : Text). t.room) c.commit.ensures.lines, ap (λ (t : Text). t.room) c.requires.to_iface)
      );
}

pub finish-requires : goal.finish-requires
finish-requires c =
    let w = what_of (effect_of c.args.event_effect.now.effect) in
    let last = c.resign_when_gone.new.self.last_thinking in
    let again = reply_lines (repeated_thinking (c.args.context.settings.repeat_thinking && c.is_hit-hits.result) last) in
    let text = ap (λ (t : Text). t.text) (c.commit.ensures.lines ∙ ap (λ (t : Text). with t (reply_lines (cond c.after-self.result.closed [] (reply_row (at c.args.context c.args.self.now.desk) (effect_of c.args.event_effect.now.effect))))) c.requires.to_iface) in
    let row : c.is_hit-hits.result ≡ true → length c.commit.new.out.text ≤ 129 = λ e.
    hit_rows c.choose-orders.result (c.is_open.result || c.after-self.result.closed) c.after-self.result.closed c.args.self.now.dialogue c.seen_call-call.result c.is_unsent-unsent.result (is_move_now w) (at c.args.context c.args.self.now.desk)
    (effect_of c.args.event_effect.now.effect) c.commit.new.out.text c.choose-orders.ensures.orders text (sym c.is_hit-hits.ensures ∙ e) in
    let most =
    repeated_fits c.is_hit-hits.result (length c.commit.new.out.text) 129 (length again) 1040 row c.commit.ensures.short (omega arith) (none_again c.is_hit-hits.result c.args.context.settings.repeat_thinking last) c.repeat_thinking.ensures.short (omega arith) in
    let pings : length c.resign_when_gone.new.self.pings ≤ 65 = omega (arith, c.requires.follow.pings_then, ap (λ (d : Desk). length d.pings) c.resign_when_gone.ensures.desk, ap (λ (d : Desk). length d.pings) c.commit.ensures.desk) in
    omega (
      arith,
      most,
      pings,
      c.resign_when_gone.ensures.room,
      ap (λ (t : Text). length t.text) c.repeat_thinking.ensures.lines,
      length-append c.resign_when_gone.new.out.text again,
      ap (λ (t : Text). t.room) c.repeat_thinking.ensures.lines,
      ap (λ (t : Text). t.room) c.resign_when_gone.ensures.lines,
      ap (λ (t : Text). t.room) c.commit.ensures.lines,
      ap (λ (t : Text). t.room) c.requires.to_iface,
    )

pub returns-clause-iface : goal.returns-clause-iface
returns-clause-iface c =
    let w = what_of (effect_of c.args.event_effect.now.effect) in
    let last = c.resign_when_gone.new.self.last_thinking in
    let again = reply_lines (repeated_thinking (c.args.context.settings.repeat_thinking && c.is_hit-hits.result) last) in
    let text = ap (λ (t : Text). t.text) (c.commit.ensures.lines ∙ ap (λ (t : Text). with t (reply_lines (cond c.after-self.result.closed [] (reply_row (at c.args.context c.args.self.now.desk) (effect_of c.args.event_effect.now.effect))))) c.requires.to_iface) in
    let row : c.is_hit-hits.result ≡ true → length c.commit.new.out.text ≤ 129 = λ e.
    hit_rows c.choose-orders.result (c.is_open.result || c.after-self.result.closed) c.after-self.result.closed c.args.self.now.dialogue c.seen_call-call.result c.is_unsent-unsent.result (is_move_now w) (at c.args.context c.args.self.now.desk)
    (effect_of c.args.event_effect.now.effect) c.commit.new.out.text c.choose-orders.ensures.orders text (sym c.is_hit-hits.ensures ∙ e) in
    let most =
    repeated_fits c.is_hit-hits.result (length c.commit.new.out.text) 129 (length again) 1040 row c.commit.ensures.short (omega arith) (none_again c.is_hit-hits.result c.args.context.settings.repeat_thinking last) c.repeat_thinking.ensures.short (omega arith) in
    let pings : length c.resign_when_gone.new.self.pings ≤ 65 = omega (arith, c.requires.follow.pings_then, ap (λ (d : Desk). length d.pings) c.resign_when_gone.ensures.desk, ap (λ (d : Desk). length d.pings) c.commit.ensures.desk) in
    omega (arith, most, pings, c.finish.ensures.room, c.resign_when_gone.ensures.room, ap (λ (t : Text). length t.text) c.repeat_thinking.ensures.lines, length-append c.resign_when_gone.new.out.text again)
