-- A thinking line is shown again beside few other lines.
use Rattle.std.proofs.Common.{◌≡◌, ℕ, ◌+◌, ◌≤◌, List, [], length, Bool, true, false, cond, ◌&&◌, Option, Some, None, refl, sym, ap, ◌∙◌, subst, arith}
use Rattle.line_io.specs.Out.{Text, empty, with}
use Rattle.chess_board.specs.declared.board.Move.{Move}
use Rattle.protocol_tokens.specs.declared.kinds.GoKind.{GoKind}
use Rattle.protocol_tokens.specs.declared.kinds.GoKind.TheVariants as kinds
use Rattle.cecp_lines.specs.Replies.{Reply}
use Rattle.think_text.specs.Last.{ThinkingLine}
use Rattle.option_map.specs.FeatureLists.Features.{reply_lines}
use Rattle.search_epochs.specs.declared.words.Call.{Call}
use Rattle.search_epochs.specs.declared.words.Call.TheVariants as calls
use Rattle.search_epochs.specs.declared.words.EngineState.{EngineState}
use Rattle.search_epochs.specs.declared.words.EngineState.TheVariants as states
use Rattle.search_epochs.specs.declared.words.Orders.{Orders}
use Rattle.search_epochs.specs.declared.words.Orders.TheVariants as chosen
use Rattle.search_epochs.specs.Tickets.{is_move}
use Rattle.search_epochs.specs.Dialogue.{Dialogue, begins_by_call, choose, choose_search, is_hit_order, is_pondered, owed_by_dialogue, played_of, settle}
use Rattle.desk_rules.specs.Desk.{Situation}
use Rattle.desk_rules.specs.Steps.{Effect, what_of}
use Rattle.desk_rules.specs.Replies.{reply_row, repeated_thinking}
use Rattle.desk_rules.proofs.Played.{move_row_short}

-- `ponderhit` is written only if a move was played

missed_search : (k : GoKind) (stale wants move_now : Bool) → is_hit_order (choose_search k stale wants false move_now) ≡ false
missed_search kinds.Ponder true wants move_now = refl
missed_search kinds.Ponder false wants true = refl
missed_search kinds.Ponder false wants false = refl
missed_search kinds.Move true wants move_now = refl
missed_search kinds.Move false wants true = refl
missed_search kinds.Move false wants false = refl
missed_search kinds.Analyse true wants move_now = refl
missed_search kinds.Analyse false wants true = refl
missed_search kinds.Analyse false wants false = refl

begun_misses : (c : Call) → is_hit_order (begins_by_call c) ≡ false
begun_misses calls.Nothing = refl
begun_misses c = refl

missed : (e : EngineState) (owing : Call) (unsent move_now : Bool) → is_hit_order (choose e owing unsent false move_now) ≡ false
missed states.Idle owing true move_now = refl
missed states.Idle owing false move_now = begun_misses owing
missed (states.Search k stale false) owing unsent move_now = missed_search k stale (is_move owing) move_now
missed e owing unsent move_now = refl

none_pondered : (p : Option Move) → is_pondered p None ≡ false
none_pondered None = refl
none_pondered (Some m) = refl

plays_hit : (rests : Bool) (v : Dialogue) (call : Call) (unsent : Bool) (played : Option Move) (move_now : Bool) → is_hit_order (cond rests chosen.None (settle v call unsent played move_now)) ≡ true
    → (m : Move) × (played ≡ Some m)
plays_hit true v call unsent played move_now e = absurd (cc)
plays_hit false v call unsent (Some m) move_now e = (m, refl)
plays_hit false v call unsent None move_now e =
    let misses = ap (λ (b : Bool). is_hit_order (choose v.state (owed_by_dialogue v call) unsent b move_now)) (none_pondered v.pondered) ∙ missed v.state (owed_by_dialogue v call) unsent move_now in
    absurd (let x : true ≡ false = sym e ∙ misses in cc)

row_unless_closed : (closed : Bool) (rows : List Reply) → length (reply_lines rows) ≤ 129 → length (reply_lines (cond closed [] rows)) ≤ 129
row_unless_closed true rows l = omega arith
row_unless_closed false rows l = l

-- the lines of the effect are short then
pub hit_rows : (orders : Orders) (rests closed : Bool) (v : Dialogue) (call : Call) (unsent move_now : Bool) (h : Situation) (d : Effect) (text : List ℕ)
    → orders ≡ cond rests chosen.None (settle v call unsent (played_of (what_of d)) move_now) → text ≡ reply_lines (cond closed [] (reply_row h d)) → is_hit_order orders ≡ true → length text ≤ 129
hit_rows orders rests closed v call unsent move_now h d text o t e =
    let played = plays_hit rests v call unsent (played_of (what_of d)) move_now (sym (ap is_hit_order o) ∙ e) in
    subst (λ (x : List ℕ). length x ≤ 129) (sym t) (row_unless_closed closed (reply_row h d) (move_row_short h d played.0 played.1))

-- so all of them are, with the line that is shown again
pub repeated_fits : (hits : Bool) (row resign again pongs : ℕ) → (hits ≡ true → row ≤ 129) → row ≤ 117000 → resign ≤ 129 → (hits ≡ false → again ≡ 0) → again ≤ 104996 → pongs ≤ 1040
    → row + resign + again + pongs ≤ 119000
repeated_fits true row resign again pongs s r e z a p = omega (arith, s refl, e, a, p)
repeated_fits false row resign again pongs s r e z a p = omega (arith, r, e, z refl, p)

pub none_again : (hits repeats : Bool) (last : Option ThinkingLine) → hits ≡ false → length (reply_lines (repeated_thinking (repeats && hits) last)) ≡ 0
none_again false true last e = refl
none_again false false last e = refl
none_again true repeats last e = cc
