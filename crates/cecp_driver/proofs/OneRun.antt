-- Some events leave a driver in one way.
use Rattle.std.proofs.Common.{◌≡◌, ℕ, ℤ, List, [], ◌∷◌, ◌++◌, true, ◌⊎◌, inl, inr, Option, Some, None, refl, sym, ap, subst, ◌∙◌}
use Rattle.std.specs.Cmp.Lexicographic.{slice_cmp}
use Rattle.std.specs.Ordering.{nat_cmp, ordering_reverse}
use Rattle.std.specs.declared.cmp.Ordering.TheVariants.{Less, Greater}
use Rattle.std.proofs.lemmas.Cmp.{nat_list_cmp_total}
use Rattle.chess_board.specs.declared.board.Move.{Move}
use Rattle.chess_board.specs.Position.{Position}
use Rattle.chess_board.specs.Text.{ComesBefore, text_of_move}
use Rattle.game_record.specs.Game.{current_position}
use Rattle.line_io.specs.Event.{Event, Iface, IfaceEnd, Engine, EngineEnd}
use Rattle.protocol_tokens.specs.Tokens.{first_token}
use Rattle.protocol_tokens.specs.declared.kinds.GoKind.{GoKind}
use Rattle.driver_state_machine.specs.declared.words.GoClocks.{GoClocks}
use Rattle.driver_state_machine.specs.declared.driver_state.Reach.{Reach}
use Rattle.driver_state_machine.specs.declared.driver_state.WantedSearch.{WantedSearch}
use Rattle.driver_state_machine.specs.declared.driver_state.DriverCall.{DriverCall}
use Rattle.driver_state_machine.specs.declared.driver_state.DriverCall.TheVariants as calls
use Rattle.driver_state_machine.specs.declared.order_words.OrderWord.{OrderWord}
use Rattle.driver_state_machine.specs.declared.order_words.OrderWord.TheVariants as orders
use Rattle.driver_state_machine.specs.Words.{order_word_in as order_in}
use Rattle.driver_state_machine.specs.Says.{EngineMessageSeen, Move as SaysMove, Over, Pong, Report, Feature, says_in}
use Rattle.driver_state_machine.specs.Says as says
use Rattle.driver_state_machine.specs.Moves.{IsFirstMove, EngineMoveIs, IsThought, Names, NamesNone, WritesEngineMove, WritesNone}
use Rattle.cecp_driver.specs.declared.driver.DriverParts.{DriverParts}
use Rattle.cecp_driver.specs.Driver.{DriverHears, HeardBy, GoIsAsked, EngineLineIsHeard, Orders, Wants, driver_after_call, driver_without_lines, placed_if, thought_call}
use Rattle.cecp_driver.specs.Script.{DriverEventGives, DriverTakesAll, DriverTakes, last_of, may_come, script_text}
use Rattle.cecp_driver.specs.Runs.{HasOneScript, IsScriptOfDrive}

-- MOVES

writes_none : (p : Position) (text : List ℕ) (m : Move) → WritesNone p text → WritesEngineMove p text m → ⊥
writes_none p text m h (inl alone) = h.0 m alone
writes_none p text m h (inr long) = h.1 m long.1.0

writes_one : (p : Position) (text : List ℕ) (a b : Move) → WritesEngineMove p text a → WritesEngineMove p text b → a ≡ b
writes_one p text a b (inl h) (inl k) = k.1 a h.0
writes_one p text a b (inl h) (inr k) = absurd (k.0 a h)
writes_one p text a b (inr h) (inl k) = absurd (h.0 b k)
writes_one p text a b (inr h) (inr k) = k.1.1 a h.1.0

names_one : (p : Position) (text : List ℕ) (a b : Move) → Names p text a → Names p text b → a ≡ b
names_one p text a b (inl e) (inl f) = let both = sym e ∙ f in cc
names_one p text a b (inl e) (inr k) = let both = sym k.0 ∙ e in absurd (cc)
names_one p text a b (inr h) (inl f) = let both = sym h.0 ∙ f in absurd (cc)
names_one p text a b (inr h) (inr k) = writes_one p text a b h.1 k.1

names_none : (p : Position) (text : List ℕ) (m : Move) → NamesNone p text → Names p text m → ⊥
names_none p text m h (inl e) = let both = sym h.0 ∙ e in cc
names_none p text m h (inr k) = writes_none p text m h.1 k.1

pub shown_one : (p : Position) (text : List ℕ) (a b : Option Move) → EngineMoveIs p text a → EngineMoveIs p text b → a ≡ b
shown_one p text None None h k = refl
shown_one p text None (Some m) h k = absurd (names_none p text m h k)
shown_one p text (Some m) None h k = absurd (names_none p text m k h)
shown_one p text (Some m) (Some n) h k = ap (λ (x : Move). Some x) (names_one p text m n h k)

found_none : (p : Position) (text : List ℕ) (m : Move) → EngineMoveIs p text (Some m) → EngineMoveIs p text None → ⊥
found_none p text m h k = names_none p text m k h

thought_one : (p : Position) (ts : List (List ℕ)) (a b : Option Move) → IsThought p ts a → IsThought p ts b → a ≡ b
thought_one p [] a b h k = h ∙ sym k
thought_one p (t ∷ ts) a b (inl f) (inl g) = f.1.1 ∙ shown_one p t (Some f.0) (Some g.0) f.1.0 g.1.0 ∙ sym g.1.1
thought_one p (t ∷ ts) a b (inl f) (inr g) = absurd (found_none p t f.0 f.1.0 g.0)
thought_one p (t ∷ ts) a b (inr f) (inl g) = absurd (found_none p t g.0 g.1.0 f.0)
thought_one p (t ∷ ts) a b (inr f) (inr g) = thought_one p ts a b f.1 g.1

-- of two moves one comes before the other
not_both : (a b : Move) → ComesBefore a b → ComesBefore b a → ⊥
not_both a b h k =
    let turned : Less ≡ Greater = sym h ∙ nat_list_cmp_total.antisymm (text_of_move a) (text_of_move b) ∙ ap ordering_reverse k in
    cc

firsts : (a b : Move) → (b ≡ a) ⊎ ComesBefore a b → (a ≡ b) ⊎ ComesBefore b a → a ≡ b
firsts a b (inl e) k = sym e
firsts a b (inr h) (inl e) = e
firsts a b (inr h) (inr k) = absurd (not_both a b h k)

first_one : (p : Position) (a b : Option Move) → IsFirstMove p a → IsFirstMove p b → a ≡ b
first_one p None None h k = refl
first_one p None (Some b) h k = absurd (h b k.0)
first_one p (Some a) None h k = absurd (k a h.0)
first_one p (Some a) (Some b) h k = ap (λ (x : Move). Some x) (firsts a b (h.1 b k.0) (k.1 a h.0))

-- CALLS

abbrev wanted : GoKind → GoClocks → Option Move → Reach → WantedSearch
wanted kind clocks first reach = record { kind = kind; clocks = clocks; first = first; reach = reach }

wanted_one : (v : DriverParts) (line : List ℕ) (w x : WantedSearch) → Wants v line w → Wants v line x → w ≡ x
wanted_one v line w x h k =
    let whole : wanted w.kind w.clocks w.first w.reach ≡ wanted x.kind x.clocks x.first x.reach =
    ap (λ (y : GoKind). wanted y w.clocks w.first w.reach) (h.kind ∙ sym k.kind)
    ∙ ap (λ (y : GoClocks). wanted x.kind y w.first w.reach) (h.clocks ∙ sym k.clocks)
    ∙ ap (λ (y : Option Move). wanted x.kind x.clocks y w.reach) (first_one (current_position v.game) w.first x.first h.first k.first)
    ∙ ap (λ (y : Reach). wanted x.kind x.clocks x.first y) (h.reach ∙ sym k.reach) in
    whole

asked_one : (v : DriverParts) (line : List ℕ) (o : OrderWord) (c d : DriverCall) → GoIsAsked v line o c → GoIsAsked v line o d → c ≡ d
asked_one v line orders.Go c d h k = h.1.1 ∙ ap (λ (w : WantedSearch). calls.Go w) (wanted_one v line h.0 k.0 h.1.0 k.1.0) ∙ sym k.1.1
asked_one v line o c d h k = h ∙ sym k

heard_one : (v : DriverParts) (said : EngineMessageSeen) (c d : DriverCall) → EngineLineIsHeard v said c → EngineLineIsHeard v said d → c ≡ d
heard_one v (SaysMove text) c d h k = h.1.1 ∙ ap (λ (m : Option Move). calls.Moved m) (shown_one (current_position v.game) text h.0 k.0 h.1.0 k.1.0) ∙ sym k.1.1
heard_one v (Report depth score time nodes moves) c d h k =
    h.1.1 ∙ ap (thought_call depth score time nodes) (thought_one (current_position v.game) moves h.0 k.0 h.1.0 k.1.0) ∙ sym k.1.1
heard_one v said c d h k = h ∙ sym k

orders_one : (v a b : DriverParts) (line : List ℕ) → Orders line v a → Orders line v b → a ≡ b
orders_one v a b line h k =
    let o = order_in (first_token line) in
    let w = placed_if o (driver_without_lines v) line in
    h.after ∙ ap (driver_after_call w) (asked_one w line o h.call k.call h.asked k.asked) ∙ sym k.after

heard_by_one : (said : EngineMessageSeen) (v a b : DriverParts) → HeardBy said v a → HeardBy said v b → a ≡ b
heard_by_one (Feature text) v a b h k = h ∙ sym k
heard_by_one (SaysMove text) v a b h k = h.1.1 ∙ ap (driver_after_call v) (heard_one v (SaysMove text) h.0 k.0 h.1.0 k.1.0) ∙ sym k.1.1
heard_by_one Over v a b h k = h.1.1 ∙ ap (driver_after_call v) (heard_one v Over h.0 k.0 h.1.0 k.1.0) ∙ sym k.1.1
heard_by_one (Pong n) v a b h k = h.1.1 ∙ ap (driver_after_call v) (heard_one v (Pong n) h.0 k.0 h.1.0 k.1.0) ∙ sym k.1.1
heard_by_one (Report depth score time nodes moves) v a b h k =
    h.1.1 ∙ ap (driver_after_call v) (heard_one v (Report depth score time nodes moves) h.0 k.0 h.1.0 k.1.0) ∙ sym k.1.1
heard_by_one says.Other v a b h k = h.1.1 ∙ ap (driver_after_call v) (heard_one v says.Other h.0 k.0 h.1.0 k.1.0) ∙ sym k.1.1

comes_one : (event : Event) (v a b : DriverParts) → DriverEventGives event v a → DriverEventGives event v b → a ≡ b
comes_one (Iface line) v a b h k = orders_one v a b line h k
comes_one IfaceEnd v a b h k = orders_one v a b _ h k
comes_one (Engine line) v a b h k = heard_by_one (says_in line) (driver_without_lines v) a b h k
comes_one EngineEnd v a b h k = h ∙ sym k
comes_one event v a b h k = absurd h

-- RUNS

pub goes_one : (v : DriverParts) (events : List Event) (after later : List DriverParts) → DriverTakesAll v events after → DriverTakesAll v events later → after ≡ later
goes_one v [] [] [] h k = refl
goes_one v [] [] (b ∷ bs) h k = absurd k
goes_one v [] (a ∷ us) later h k = absurd h
goes_one v (e ∷ es) [] later h k = absurd h
goes_one v (e ∷ es) (a ∷ us) [] h k = absurd k
goes_one v (e ∷ es) (a ∷ us) (b ∷ bs) h k =
    let first : b ≡ a = comes_one e v b a k.0.comes h.0.comes in
    ap (λ (x : DriverParts). x ∷ us) (sym first)
    ∙ ap (λ (xs : List DriverParts). b ∷ xs) (goes_one b es us bs (subst (λ (x : DriverParts). DriverTakesAll x es us) (sym first) h.1) k.1)

pub one_script : HasOneScript
one_script events a b h k = h.text_is ∙ ap (script_text events) (goes_one _ events h.after k.after h.goes k.goes) ∙ sym k.text_is

-- an event of a run may come where it does
pub goes_part : (v : DriverParts) (before more : List Event) (e : Event) (whole after : List DriverParts) → DriverTakesAll v (before ++ e ∷ more) whole → DriverTakesAll v before after → may_come (last_of v after) e ≡ true
goes_part v [] more e [] after h k = absurd h
goes_part v [] more e (a ∷ us) [] h k = h.0.may
goes_part v [] more e (a ∷ us) (b ∷ bs) h k = absurd k
goes_part v (x ∷ xs) more e [] after h k = absurd h
goes_part v (x ∷ xs) more e (a ∷ us) [] h k = absurd k
goes_part v (x ∷ xs) more e (a ∷ us) (b ∷ bs) h k =
    let first : a ≡ b = comes_one x v a b h.0.comes k.0.comes in
    goes_part b xs more e us bs (subst (λ (y : DriverParts). DriverTakesAll y (xs ++ e ∷ more) us) first h.1) k.1
