-- The part of a call that counts settles the same orders as the call.
use Rattle.std.proofs.Common.{◌≡◌, Bool, true, false, cond, ◌&&◌, ◌||◌, Option, refl, ap, ◌∙◌}
use Rattle.chess_board.specs.declared.board.Move.{Move}
use Rattle.search_epochs.specs.declared.words.Call.{Call}
use Rattle.search_epochs.specs.declared.words.Call.TheVariants as calls
use Rattle.search_epochs.specs.declared.words.EngineState.{EngineState}
use Rattle.search_epochs.specs.declared.words.EngineState.TheVariants as states
use Rattle.search_epochs.specs.Tickets.{is_move}
use Rattle.search_epochs.specs.Dialogue.{Dialogue, choose, choose_search, is_pondered, is_unfenced, owed_by_dialogue, settle}
use Rattle.adapter_core.specs.Parts.{seen_call}

asks_same : (spent : Bool) (c : Call) → is_move (cond spent calls.Nothing (cond (is_move c) calls.Move calls.Nothing)) ≡ is_move (cond spent calls.Nothing c)
asks_same true c = refl
asks_same false calls.Nothing = refl
asks_same false calls.Move = refl
asks_same false (calls.Ponder h) = refl
asks_same false calls.Analyse = refl

move_same : (e : EngineState) (spent : Bool) (c : Call) → is_move (cond spent calls.Nothing (seen_call e c)) ≡ is_move (cond spent calls.Nothing c)
move_same states.Boot spent c = asks_same spent c
move_same states.Getting spent c = asks_same spent c
move_same states.Idle spent c = refl
move_same (states.Search k stale stopped) spent c = asks_same spent c
move_same states.Gone spent c = asks_same spent c

choice_same : (e : EngineState) (spent : Bool) (c : Call) (seen unsent matches move_now : Bool) → (e ≡ states.Idle → seen ≡ unsent)
    → choose e (cond spent calls.Nothing (seen_call e c)) seen matches move_now ≡ choose e (cond spent calls.Nothing c) unsent matches move_now
choice_same states.Boot spent c seen unsent matches move_now i = refl
choice_same states.Getting spent c seen unsent matches move_now i = refl
choice_same states.Idle spent c seen unsent matches move_now i = ap (λ (b : Bool). choose states.Idle (cond spent calls.Nothing c) b matches move_now) (i refl)
choice_same (states.Search k stale true) spent c seen unsent matches move_now i = refl
choice_same (states.Search k stale false) spent c seen unsent matches move_now i = ap (λ (wants : Bool). choose_search k stale wants matches move_now) (asks_same spent c)
choice_same states.Gone spent c seen unsent matches move_now i = refl

pub seen_owes : (v : Dialogue) (search_info c : Call) → search_info ≡ seen_call v.state c → is_move (owed_by_dialogue v search_info) ≡ is_move (owed_by_dialogue v c)
seen_owes v search_info c e = ap (λ (x : Call). is_move (owed_by_dialogue v x)) e ∙ move_same v.state v.spent c

-- whether a batch is unsent, too, is told by the part of the call that counts
pub seen_settles : (v : Dialogue) (search_info c : Call) (waits fences : Bool) (played : Option Move) (move_now : Bool) → search_info ≡ seen_call v.state c
    → settle v search_info (waits || (fences && is_unfenced v search_info)) played move_now ≡ settle v c (waits || (fences && is_unfenced v c)) played move_now
seen_settles v search_info c waits fences played move_now e =
    ap (λ (x : Call). settle v x (waits || (fences && is_unfenced v x)) played move_now) e
    ∙ choice_same v.state v.spent c (waits || (fences && is_unfenced v (seen_call v.state c))) (waits || (fences && is_unfenced v c)) (is_pondered v.pondered played) move_now
    (λ i. ap (λ (s : EngineState). waits || (fences && is_unfenced v (seen_call s c))) i)
