-- The lines of a step, put one part after the other.
use Rattle.std.proofs.Common.{◌≡◌, ℕ, List, [], ◌++◌, map, Bool, true, false, not, cond, ◌&&◌, ◌||◌, Option, None, refl, sym, ap, ◌∙◌}
use Rattle.line_io.specs.Event.{Event}
use Rattle.line_io.specs.Out.{Text, empty, with}
use Rattle.cecp_lines.specs.Replies.{Reply}
use Rattle.cecp_lines.specs.Replies as cecp
use Rattle.uci_lines.specs.Orders.{Order}
use Rattle.game_record.specs.Game.{Game}
use Rattle.think_text.specs.Kept.{nothing_seen}
use Rattle.think_text.specs.Last.{ThinkingLine}
use Rattle.option_map.specs.FeatureLists.Features.{reply_lines}
use Rattle.policy_rules.specs.declared.setting_rules.settings.Settings.{Settings}
use Rattle.policy_rules.specs.declared.score_rules.scores.Scores.{Scores}
use Rattle.search_epochs.specs.declared.words.Call.{Call}
use Rattle.search_epochs.specs.declared.words.Orders.{Orders}
use Rattle.search_epochs.specs.declared.words.Orders.TheVariants as chosen
use Rattle.search_epochs.specs.Tickets.{is_move, is_move_now}
use Rattle.search_epochs.specs.Dialogue.{Dialogue, owed_by_dialogue, is_unfenced, settle, after_settled, played_of, is_hit_order, is_batch_order}
use Rattle.desk_rules.specs.declared.effect.Context.{Context}
use Rattle.desk_rules.specs.declared.desk.Desk.{Desk}
use Rattle.desk_rules.specs.Desk.{at, call_of_desk, is_gone}
use Rattle.desk_rules.specs.Steps.{Effect, what_of, begins_epoch, desk_after_effect, owes_when_gone, over_where, answers_pings, is_death, counts_after}
use Rattle.desk_rules.specs.Replies.{reply_row, given_up_where, repeated_thinking, replies_of, pongs}
use Rattle.desk_rules.specs.Texts.{order_lines}
use Rattle.desk_rules.proofs.Rooms.{two_lines}
use Rattle.adapter_core.specs.declared.ends.Ends.{Ends}
use Rattle.adapter_core.specs.declared.session.TheConstants.{ROOM}
use Rattle.adapter_core.specs.Ends.{ends_after, is_open}
use Rattle.adapter_core.specs.Parts.{CoreParts, is_step_unsent, step_orders, advance_from}
use Rattle.adapter_core.proofs.Fresh.{closed_calls}

-- none resigns in a closed session
none_resigns : (wants gone owes : Bool) → owes ≡ false → (wants && (gone && owes)) ≡ false
none_resigns true true owes e = e
none_resigns true false owes e = refl
none_resigns false gone owes e = refl

four_lines : (room : ℕ) (rows resign again more : List Reply)
    → with (with (with (with (empty room) (reply_lines rows)) (reply_lines resign)) (reply_lines again)) (reply_lines more) ≡ with (empty room) (reply_lines (rows ++ resign ++ again ++ more))
four_lines room rows resign again more =
    let a = with (empty room) (reply_lines rows) in
    let b = with a (reply_lines resign) in
    let c = with b (reply_lines again) in
    let three = two_lines (empty room) b c (rows ++ resign) again (two_lines (empty room) a b rows resign refl refl) refl in
    two_lines (empty room) c (with c (reply_lines more)) (rows ++ resign ++ again) more three refl

-- nothing is repeated in a closed session
none_repeats : (wants hits : Bool) (last : Option ThinkingLine) → hits ≡ false → repeated_thinking (wants && hits) last ≡ []
none_repeats true false last e = refl
none_repeats false false last e = refl
none_repeats wants true last e = cc

pub closed_misses : (opens closed : Bool) (x : Orders) → closed ≡ true → is_hit_order (cond (opens || closed) chosen.None x) ≡ false
closed_misses true true x e = refl
closed_misses false true x e = refl
closed_misses opens false x e = cc

-- the row, the game that an engine that is gone gives up, the repeated thinking line, and the pongs
pub all_shown : (room : ℕ) (closed owes wants gone repeats hits : Bool) (rows : List Reply) (o : Settings) (g : Game) (d : Desk) (last : Option ThinkingLine) (pings : List ℕ) → (closed ≡ true → hits ≡ false)
    → with (with (with (with (empty room) (reply_lines (cond closed [] rows))) (reply_lines (given_up_where (wants && owes_when_gone closed gone d) o g))) (reply_lines (repeated_thinking (repeats && hits) last))) (reply_lines (pongs (answers_pings closed owes) pings))
    ≡ with (empty room) (reply_lines (cond closed [] (rows ++ given_up_where (wants && owes_when_gone closed gone d) o g ++ repeated_thinking (repeats && hits) last ++ cond owes [] (map cecp.Pong pings))))
all_shown room true owes wants gone repeats hits rows o g d last pings m =
    ap (λ (b : Bool). with (with (with (with (empty room) []) (reply_lines (given_up_where b o g))) (reply_lines (repeated_thinking (repeats && hits) last))) [])
    (none_resigns wants gone (is_move (call_of_desk true false d)) (closed_calls true false d refl))
    ∙ ap (λ (rs : List Reply). with (with (with (with (empty room) []) []) (reply_lines rs)) []) (none_repeats repeats hits last (m refl))
all_shown room false true wants gone repeats hits rows o g d last pings m = four_lines room rows (given_up_where (wants && owes_when_gone false gone d) o g) (repeated_thinking (repeats && hits) last) []
all_shown room false false wants gone repeats hits rows o g d last pings m =
    four_lines room rows (given_up_where (wants && owes_when_gone false gone d) o g) (repeated_thinking (repeats && hits) last) (map cecp.Pong pings)

-- THE CORE AFTER AN EVENT, PART BY PART

pub went_on : (context : Context) (v : CoreParts) (d : Effect) (e : Event) (ends : Ends) (opens gone rose owes unsent hits clears : Bool) (scores : Scores) (desk given_up desk' : Desk) (call : Call)
    (dialogue : Dialogue) (orders : Orders) (row_shown resign_shown repeated iface engine : Text) (held : List Order)
    → opens ≡ is_open e
    → ends ≡ ends_after v.ends e
    → gone ≡ (is_gone context.engine || is_death d)
    → rose ≡ begins_epoch (at context v.desk) d
    → scores ≡ counts_after v.desk.search_info.score d v.scores
    → desk ≡ desk_after_effect (at context v.desk) d
    → row_shown ≡ with (empty ROOM) (reply_lines (cond ends.closed [] (reply_row (at context v.desk) d)))
    → call ≡ call_of_desk ends.closed gone desk
    → owes ≡ is_move (owed_by_dialogue v.dialogue call)
    → unsent ≡ (is_step_unsent v.held d || (context.settings.fence_stops && is_unfenced v.dialogue call))
    → orders ≡ cond (opens || ends.closed) chosen.None (settle v.dialogue call unsent (played_of (what_of d)) (is_move_now (what_of d)))
    → dialogue ≡ after_settled v.dialogue (cond (opens || ends.closed) chosen.None (settle v.dialogue call unsent (played_of (what_of d)) (is_move_now (what_of d))))
    → hits ≡ is_hit_order orders
    → clears ≡ (rose && not hits)
    → resign_shown ≡ with row_shown (reply_lines (given_up_where (context.settings.resign_when_gone && owes_when_gone ends.closed gone desk) context.settings desk.game))
    → given_up ≡ record desk { mode = over_where (context.settings.resign_when_gone && owes_when_gone ends.closed gone desk) desk.mode }
    → repeated ≡ with resign_shown (reply_lines (repeated_thinking (context.settings.repeat_thinking && hits) given_up.last_thinking))
    → iface ≡ with repeated (reply_lines (pongs (answers_pings ends.closed owes) given_up.pings))
    → desk' ≡ record given_up { pings = cond (answers_pings ends.closed owes) [] given_up.pings; early = cond ends.closed [] given_up.early; search_info = cond clears nothing_seen given_up.search_info; last_thinking = cond clears None given_up.last_thinking }
    → engine ≡ with (empty v.to_engine.room) (order_lines (step_orders context.settings opens v.ends.closed ends.closed gone v.held desk' orders))
    → held ≡ cond (is_batch_order orders) [] v.held
    → v.to_iface.room ≡ ROOM
    → (let p : CoreParts = record { settings = v.settings; ends = ends; desk = desk'; scores = scores; held = held; dialogue = dialogue; to_iface = iface; to_engine = engine } in p)
    ≡ advance_from (at context v.desk) d e v v.held v.dialogue
went_on context v d e ends opens gone rose owes unsent hits clears scores desk given_up desk' call dialogue orders row_shown resign_shown repeated iface engine held
    opens_is ends_is gone_is rose_is scores_are desk_is row_is call_is owes_is unsent_is orders_are dialogue_is hits_is clears_is resign_is given_is repeated_is iface_is desk_after_is engine_is held_is room =
    let h = at context v.desk in
    let after = advance_from h d e v v.held v.dialogue in
    let closed = (ends_after v.ends e).closed in
    let gone_now = is_gone context.engine || is_death d in
    let owes_now = is_move (owed_by_dialogue v.dialogue (call_of_desk closed gone_now (desk_after_effect h d))) in
    let call_now = call_of_desk closed gone_now (desk_after_effect h d) in
    let chosen_now = settle v.dialogue call_now (is_step_unsent v.held d || (context.settings.fence_stops && is_unfenced v.dialogue call_now)) (played_of (what_of d)) (is_move_now (what_of d)) in
    let hits_now = is_hit_order (cond (is_open e || closed) chosen.None chosen_now) in
    rw (held_is, engine_is, desk_after_is, iface_is, repeated_is, given_is, resign_is, clears_is, hits_is, dialogue_is, orders_are, unsent_is, owes_is, call_is, row_is, desk_is, scores_are, rose_is, gone_is, ends_is, opens_is)
    (ap (λ (t : Text). let p : CoreParts = record after { to_iface = t } in p) (all_shown ROOM closed owes_now context.settings.resign_when_gone gone_now context.settings.repeat_thinking hits_now (reply_row h d) context.settings (desk_after_effect h d).game (desk_after_effect h d) (desk_after_effect h d).last_thinking (desk_after_effect h d).pings (closed_misses (is_open e) closed chosen_now))
    ∙ ap (λ (n : ℕ). let p : CoreParts = record after { to_iface = with (empty n) (reply_lines (replies_of closed owes_now hits_now h d)) } in p) (sym room))
