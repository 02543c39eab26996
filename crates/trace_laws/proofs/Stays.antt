-- What stays of a search and of the desk when no epoch begins, and when the hint is played.
use Rattle.std.proofs.Common.{◌≡◌, ℕ, List, [], ◌∷◌, Bool, true, false, not, ◌&&◌, ◌==◌, Option, Some, None, refl, ap, ◌∙◌, arith}
use Rattle.std.specs.Option.{option_eq}
use Rattle.std.proofs.lemmas.Bool.Decides.{nat_tests}
use Rattle.std.proofs.lemmas.Bool.{and_parts}
use Rattle.chess_board.specs.declared.board.Kind.{Kind}
use Rattle.chess_board.specs.declared.board.Kind.TheVariants.{Pawn, Knight, Bishop, Rook, Queen, King}
use Rattle.chess_board.specs.declared.board.Move.{Move}
use Rattle.protocol_tokens.specs.declared.kinds.GoKind.{GoKind}
use Rattle.protocol_tokens.specs.declared.kinds.GoKind.TheVariants as kinds
use Rattle.cecp_lines.specs.Messages.{IfaceMsg}
use Rattle.cecp_lines.specs.Messages as says
use Rattle.uci_lines.specs.Orders.{Order}
use Rattle.game_record.specs.Game.{Ply, Game, ply_of}
use Rattle.search_epochs.specs.declared.words.Said.{Said}
use Rattle.search_epochs.specs.declared.words.Said.TheVariants as said
use Rattle.search_epochs.specs.Tickets as talks
use Rattle.search_epochs.specs.Tickets.{Engine, Word, Ticketed, DialogueTurn, What, engine_after_heard, engine_after_word, sent_all, has_go, has_hit, is_hint_played, is_ponder_hit, ponders_at, same_search_kind, same_move}
use Rattle.desk_rules.specs.declared.desk.Desk.{Desk}
use Rattle.desk_rules.specs.Desk as desks
use Rattle.desk_rules.specs.Desk.{Situation, is_boot, is_gone, owes_move}
use Rattle.desk_rules.specs.Lines.{asks, change, is_epoch_line}
use Rattle.desk_rules.specs.Steps.{Effect, Accepts, Shows, what_of, what_accepted, begins_epoch, desk_after_effect, searched_by}

-- WHAT STAYS

changed : (boot : Bool) (d : Desk) (owes : Bool) (a : Option Order) (m : IfaceMsg) → is_epoch_line owes a m ≡ false → (change boot d m).game ≡ d.game
unfolding change is_epoch_line
changed boot d owes a says.New r = cc
changed boot d owes a (says.UserMove m) r = cc
changed boot d owes a says.Undo r = cc
changed boot d owes a says.Remove r = cc
changed boot d owes a (says.SetBoard text) r = cc
changed boot d owes a m r = refl

pub game_kept : (h : Situation) (d : Effect) → begins_epoch h d ≡ false → (desk_after_effect h d).game ≡ h.desk.game
unfolding desk_after_effect
game_kept h (Accepts m) r = changed (is_boot h.engine) h.desk (owes_move h) (asks (is_gone h.engine) h.desk m) m r
game_kept h (Shows best hint) r = cc
game_kept h d r = refl

pub heard_search : (e : Engine) (w : Option Said) (k : GoKind) (t : ℕ) (st : Bool) → engine_after_heard e w ≡ talks.Search k t st → e ≡ talks.Search k t st
heard_search e None k t st x = x
heard_search (talks.Search k' t' s') (Some said.UciOk) k t st x = x
heard_search (talks.Search k' t' s') (Some said.ReadyOk) k t st x = x
heard_search e (Some said.UciOk) k t st x = cc
heard_search e w k t st x = cc

-- an order that is neither `go` nor `ponderhit`
abbrev goes_on : Word → Bool
goes_on (talks.Go k) = false
goes_on talks.PonderHit = false
goes_on w = true

record Later (w : Word) (ws : List Word) : Type 0 where
  first : goes_on w ≡ true
  no_go : has_go ws ≡ false
  no_hit : has_hit ws ≡ false

later : (w : Word) (ws : List Word) → has_go (w ∷ ws) ≡ false → has_hit (w ∷ ws) ≡ false → Later w ws
later (talks.Go k) ws g h = absurd (cc)
later talks.PonderHit ws g h = absurd (cc)
later w ws g h = record { first = refl; no_go = g; no_hit = h }

stop_one : (k k' : GoKind) (t t' : ℕ) (s' st : Bool) → talks.Search k' t' true ≡ talks.Search k t st → talks.Search k' t' s' ≡ talks.Search k t s'
stop_one k k' t t' s' st x = let a : k' ≡ k = cc in let b : t' ≡ t = cc in ap (λ (y : GoKind). talks.Search y t' s') a ∙ ap (λ (y : ℕ). talks.Search k y s') b

sent_one : (n : ℕ) (e : Engine) (w : Word) (k : GoKind) (t : ℕ) (st : Bool) → goes_on w ≡ true → engine_after_word n e w ≡ talks.Search k t st → (st' : Bool) × (e ≡ talks.Search k t st')
sent_one n (talks.Search k' t' s') talks.Setup k t st g x = (st, x)
sent_one n (talks.Search k' t' s') talks.Position k t st g x = (st, x)
sent_one n (talks.Search k' t' s') talks.Stop k t st g x = (s', stop_one k k' t t' s' st x)
sent_one n (talks.Search k' t' s') talks.Quit k t st g x = (st, x)
sent_one n e talks.Uci k t st g x = absurd (cc)
sent_one n e w k t st g x = absurd (cc)

pub sent_search : (n : ℕ) (e : Engine) (ws : List Word) (k : GoKind) (t : ℕ) (st : Bool) → has_go ws ≡ false → has_hit ws ≡ false → sent_all n e ws ≡ talks.Search k t st → (st' : Bool) × (e ≡ talks.Search k t st')
sent_search n e [] k t st g h x = (st, x)
sent_search n e (w ∷ ws) k t st g h x =
    let l = later w ws g h in
    let r = sent_search n (engine_after_word n e w) ws k t st l.no_go l.no_hit x in
    sent_one n e w k t r.0 l.first r.1

-- THE HINT IS PLAYED

pub record Hits (t : Ticketed) (u : DialogueTurn) : Type 0 where
  pub engine : t.engine ≡ talks.Search kinds.Ponder t.epoch false
  pub hint : is_hint_played u.hint u.what ≡ true

ponders_so : (epoch : ℕ) (e : Engine) → ponders_at epoch e ≡ true → e ≡ talks.Search kinds.Ponder epoch false
ponders_so epoch talks.Boot x = cc
ponders_so epoch talks.Getting x = cc
ponders_so epoch talks.Idle x = cc
ponders_so epoch talks.Gone x = cc
ponders_so epoch (talks.Search kinds.Move t s) x = cc
ponders_so epoch (talks.Search kinds.Analyse t s) x = cc
ponders_so epoch (talks.Search kinds.Ponder t s) x =
    let both = and_parts (t == epoch) (not s) x in
    let same : t ≡ epoch = let e = both.0 in grind (arith, nat_tests) in
    ap (λ (y : ℕ). talks.Search kinds.Ponder y s) same ∙ ap (talks.Search kinds.Ponder epoch) (not_true s both.1)
  where
    not_true : (b : Bool) → not b ≡ true → b ≡ false
    not_true true e = cc
    not_true false e = refl

pub hits_so : (t : Ticketed) (u : DialogueTurn) → is_ponder_hit t u ≡ true → Hits t u
hits_so t u x =
    let first = and_parts (ponders_at t.epoch t.engine && is_hint_played u.hint u.what) _ x in
    let both = and_parts (ponders_at t.epoch t.engine) (is_hint_played u.hint u.what) first.0 in
    record { engine = ponders_so t.epoch t.engine both.0; hint = both.1 }

same_kind_is : (a b : Kind) → same_search_kind a b ≡ true → a ≡ b
same_kind_is Pawn Pawn e = refl
same_kind_is Knight Knight e = refl
same_kind_is Bishop Bishop e = refl
same_kind_is Rook Rook e = refl
same_kind_is Queen Queen e = refl
same_kind_is King King e = refl
same_kind_is a b e = cc

same_promotion_is : (a b : Option Kind) → option_eq same_search_kind a b ≡ true → a ≡ b
same_promotion_is None None e = refl
same_promotion_is None (Some b) e = cc
same_promotion_is (Some a) None e = cc
same_promotion_is (Some a) (Some b) e = ap Some (same_kind_is a b e)

abbrev ply_with : ℕ → ℕ → Option Kind → Ply
ply_with from to promotion = record { from = from; to = to; promotion = promotion }

same_ply : (a b : Move) → same_move a b ≡ true → ply_of a ≡ ply_of b
same_ply a b x =
    let first = and_parts (a.from.index == b.from.index) ((a.to.index == b.to.index) && option_eq same_search_kind a.promotion b.promotion) x in
    let second = and_parts (a.to.index == b.to.index) (option_eq same_search_kind a.promotion b.promotion) first.1 in
    let from : a.from.index ≡ b.from.index = let e = first.0 in grind (arith, nat_tests) in
    let to : a.to.index ≡ b.to.index = let e = second.0 in grind (arith, nat_tests) in
    let promotion = same_promotion_is a.promotion b.promotion second.1 in
    ap (λ y. ply_with y a.to.index a.promotion) from ∙ ap (λ y. ply_with b.from.index y a.promotion) to ∙ ap (λ (y : Option Kind). ply_with b.from.index b.to.index y) promotion

-- an effect that plays the hint
pub record Plays (h : Situation) (d : Effect) : Type 0 where
  pub hint : Move
  pub move : Move
  pub hint_is : h.desk.hint ≡ Some hint
  pub effect_is : d ≡ Accepts (says.UserMove move)
  pub same : ply_of hint ≡ ply_of move

plays_hint : (h : Situation) (m : Move) (o : Option Move) → h.desk.hint ≡ o → is_hint_played o (talks.Plays m) ≡ true → Plays h (Accepts (says.UserMove m))
plays_hint h m None e x = absurd (cc)
plays_hint h m (Some g) e x = record { hint = g; move = m; hint_is = e; effect_is = refl; same = same_ply g m x }

no_hint : (o : Option Move) (w : What) → is_hint_played o w ≡ true → (m : Move) × (w ≡ talks.Plays m)
no_hint None w x = absurd (cc)
no_hint (Some g) (talks.Plays m) x = (m, refl)
no_hint (Some g) (talks.Says s) x = absurd (cc)
no_hint (Some g) talks.Hurries x = absurd (cc)
no_hint (Some g) talks.Quiet x = absurd (cc)

accepted_plays : (h : Situation) (message : IfaceMsg) (m : Move) → what_accepted message ≡ talks.Plays m → is_hint_played h.desk.hint (what_accepted message) ≡ true → Plays h (Accepts message)
accepted_plays h (says.UserMove b) m e x = plays_hint h b h.desk.hint refl x
accepted_plays h says.MoveNow m e x = absurd (cc)
accepted_plays h message m e x = absurd (cc)

effect_plays : (h : Situation) (d : Effect) (m : Move) → what_of d ≡ talks.Plays m → is_hint_played h.desk.hint (what_of d) ≡ true → Plays h d
effect_plays h (Accepts message) m e x = accepted_plays h message m e x
effect_plays h d m e x = absurd (cc)

pub hit_plays : (h : Situation) (d : Effect) → is_hint_played h.desk.hint (what_of d) ≡ true → Plays h d
hit_plays h d x = let w = no_hint h.desk.hint (what_of d) x in effect_plays h d w.0 w.1 x

-- the desk once the hint was played
pub hit_game : (h : Situation) (m : Move) → (desk_after_effect h (Accepts (says.UserMove m))).game ≡ desks.game_played h.desk.game m
unfolding desk_after_effect change
hit_game h m = refl

pub hit_hint : (h : Situation) (m : Move) → (desk_after_effect h (Accepts (says.UserMove m))).hint ≡ None
unfolding desk_after_effect change
hit_hint h m = refl

pub searched_now : (k : GoKind) (g : Game) → searched_by k g None ≡ g
searched_now kinds.Move g = refl
searched_now kinds.Ponder g = refl
searched_now kinds.Analyse g = refl
