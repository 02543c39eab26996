-- The hint of the Ponder search, call by call.
use Rattle.std.proofs.Common.{◌≡◌, ℕ, List, [], ◌∷◌, ◌++◌, Bool, true, false, not, cond, ◌&&◌, ◌==◌, Option, Some, None, refl, sym, ap, ◌∙◌}
use Rattle.chess_board.specs.declared.board.Move.{Move}
use Rattle.protocol_tokens.specs.declared.kinds.GoKind.{GoKind}
use Rattle.search_epochs.specs.declared.words.Call.{Call}
use Rattle.search_epochs.specs.declared.words.Call.TheVariants as calls
use Rattle.search_epochs.specs.Tickets.{Engine, Idle, Search, Word, IsReady, AllSetup, sent_all, ponders_at, has_go, hint_of_call, is_move}
use Rattle.search_epochs.specs.Dialogue.{forget, words, choose, choose_search, settled_pondered}
use Rattle.search_epochs.proofs.Batches.{batch}
use Rattle.search_epochs.proofs.Choices.{of_choice}
use Rattle.search_epochs.proofs.Whole.{same, none_stopped, stopped_ponder, live_kept}

-- an open search gets no `go`
no_go : (k : GoKind) (stale plays matches move_now : Bool) (ws : List Word) → has_go (words ws (choose_search k stale plays matches move_now)) ≡ false
no_go k stale plays matches move_now ws = of_choice (λ x. has_go (words ws x) ≡ false) k stale plays matches move_now (λ h. refl) (λ h s. refl) (λ h s. refl)

-- what is kept is the hint of the search that is begun, or of the one that goes on
pub hint_kept : (epoch : ℕ) (e : Engine) (hint : Option Move) (o : Call) (ws : List Word) (unsent matches move_now : Bool) → AllSetup ws
    → settled_pondered (forget epoch e) hint (choose (forget epoch e) o unsent matches move_now)
    ≡ cond (ponders_at epoch (sent_all epoch e (words ws (choose (forget epoch e) o unsent matches move_now))))
    (cond (has_go (words ws (choose (forget epoch e) o unsent matches move_now))) (hint_of_call o) hint) None
hint_kept epoch Idle hint o ws true matches move_now a = ap (λ (x : Engine). cond (ponders_at epoch x) (cond (has_go (ws ++ IsReady ∷ [])) (hint_of_call o) hint) None) (sym (batch epoch ws a).ends)
hint_kept epoch Idle hint (calls.Ponder g) ws false matches move_now a = sym (ap (λ b. cond (b && true) (Some g) None) (same epoch))
hint_kept epoch (Search k t true) hint o ws unsent matches move_now a = none_stopped k (not (t == epoch)) hint ∙ sym (ap (λ b. cond b hint None) (stopped_ponder epoch t k))
hint_kept epoch (Search k t false) hint o ws unsent matches move_now a =
    live_kept k epoch t hint hint ws (not (t == epoch)) (is_move o) matches move_now refl (λ _. refl)
    ∙ ap (λ b. cond (ponders_at epoch (sent_all epoch (Search k t false) (words ws (choose_search k (not (t == epoch)) (is_move o) matches move_now)))) (cond b (hint_of_call o) hint) None)
    (sym (no_go k (not (t == epoch)) (is_move o) matches move_now ws))
hint_kept epoch e hint o ws unsent matches move_now a = refl
