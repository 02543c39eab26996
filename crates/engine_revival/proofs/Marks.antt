-- The number of marks for the lines of a call.
use Rattle.std.proofs.Common.{◌≡◌, ◌&&◌, not, ℕ, zero, suc, codes, ◌+◌, ◌*◌, ◌≤◌, ◌<◌, List, [], ◌∷◌, ◌++◌, Bool, true, false, cond, length, Option, Some, None, refl, sym, ap, ◌∙◌, arith, length-append, append_assoc, if◌then◌else◌}
use Rattle.std.specs.List.{AllByRecursion, flat_map, onto_first, before_first, after_first}
use Rattle.std.proofs.lemmas.List.Concat.{flat_map-append}
use Rattle.std.proofs.lemmas.List.{length-map, length-replicate}
use Rattle.line_io.specs.Event.{has_feed}
use Rattle.line_io.specs.Lines.{is_feed, parts_by_feed}
use Rattle.script_lines.specs.Marks.{line_marked}
use Rattle.script_lines.specs.StepText.{lines_marked}
use Rattle.script_lines.proofs.Scripts.{parts_line}
use Rattle.script_lines.proofs.Rooms.{lines_first}
use Rattle.protocol_tokens.specs.Quit.{is_quit}
use Rattle.engine_revival.specs.Orders.{RevivalOrder, revival_order_text}
use Rattle.engine_revival.specs.Orders as orders
use Rattle.protocol_tokens.specs.Tokens.{trimmed}
use Rattle.engine_revival.specs.Asked.{order_of_line, revival_order_in}
use Rattle.engine_revival.proofs.Asked.{asked_text, trimmed_feedless}
use Rattle.engine_revival.specs.declared.order_list.LineSpan.{LineSpan}
use Rattle.engine_revival.specs.declared.order_list.TheConstants.{LIST_BYTES, LIST_ORDERS}
use Rattle.engine_revival.specs.declared.state.RevivalState.{RevivalState}
use Rattle.engine_revival.specs.declared.state.TheConstants.{DUE_ORDERS, MOST_LINE, MOST_READY, READY_BYTES, SEARCH_BYTES}
use Rattle.engine_revival.specs.declared.revival.TheConstants.{UP_ROOM, CHILD_ROOM}
use Rattle.engine_revival.specs.declared.words.StandInAnswer.{StandInAnswer}
use Rattle.engine_revival.specs.declared.words.StandInAnswer.TheVariants as answers
use Rattle.engine_revival.specs.declared.words.DialogueState.{DialogueState}
use Rattle.engine_revival.specs.declared.words.DueOrders.{DueOrders}
use Rattle.engine_revival.specs.declared.words.DueOrders.TheVariants as due
use Rattle.engine_revival.specs.declared.words.LifeState.{LifeState}
use Rattle.engine_revival.specs.Dialogue.{is_before}
use Rattle.engine_revival.specs.Kept.{SpellsRevivalOrder, spelled, line_at, orders_at, SpansAreIn}
use Rattle.engine_revival.specs.Lists.{revival_batch_text, revival_order_line}
use Rattle.engine_revival.specs.Marks.{OrderIsOneLine, OrdersAreLines, HaveRoom}
use Rattle.engine_revival.specs.Rooms.{IsRoomy}
use Rattle.engine_revival.specs.Steps.{upper_if_accepted, accepted_at_once, answer_of, stand_in_text, at_once, due_of, due_orders, first_order, is_served, quit_to, read_at_once, readies, readyoks, settled_answers, settled_orders, takes_at_once}
use Rattle.engine_revival.proofs.Lines.{batch_first}

-- THE MARKS OF ANY TEXT

onto_le : (letter b : ℕ) (ps : List (List ℕ)) → length (flat_map (line_marked letter) (onto_first b ps)) ≤ length (flat_map (line_marked letter) ps) + 4
onto_le letter b [] = omega arith
onto_le letter b (p ∷ ps) = omega (arith, length-append (line_marked letter (b ∷ p)) (flat_map (line_marked letter) ps), length-append (line_marked letter p) (flat_map (line_marked letter) ps))

marked_step : (w : Bool) (letter b : ℕ) (bs : List ℕ) → length (lines_marked letter bs) ≤ 4 * length bs
    → length (flat_map (line_marked letter) (cond w ([] ∷ parts_by_feed bs) (onto_first b (parts_by_feed bs)))) ≤ 4 * length (b ∷ bs)
marked_step true letter b bs h = omega (arith, h)
marked_step false letter b bs h = omega (arith, h, onto_le letter b (parts_by_feed bs))

-- at most four bytes a byte
pub marked_le : (letter : ℕ) (text : List ℕ) → length (lines_marked letter text) ≤ 4 * length text
marked_le letter [] = omega arith
marked_le letter (b ∷ bs) = marked_step (is_feed b) letter b bs (marked_le letter bs)

-- THE MARKS OF ORDERS

first_marked : (letter : ℕ) (c : RevivalOrder) (cs : List RevivalOrder) → OrderIsOneLine c → lines_marked letter (revival_batch_text (c ∷ cs)) ≡ line_marked letter (revival_order_text c) ++ lines_marked letter (revival_batch_text cs)
first_marked letter c cs h =
    ap (λ (t : List ℕ). lines_marked letter t) (append_assoc (revival_order_text c) (10 ∷ []) (revival_batch_text cs))
    ∙ ap (λ (ps : List (List ℕ)). flat_map (line_marked letter) ps) (parts_line (revival_order_text c) (revival_batch_text cs) h)

-- two bytes more for each
marked_length : (letter : ℕ) (list : List RevivalOrder) → AllByRecursion OrderIsOneLine list → length (lines_marked letter (revival_batch_text list)) ≡ length (revival_batch_text list) + 2 * length list
marked_length letter [] h = refl
marked_length letter (c ∷ cs) h =
    let i = marked_length letter cs h.1 in
    let e = ap (λ (t : List ℕ). length t) (first_marked letter c cs h.0) in
    omega (arith, e, i, batch_first c cs, length-append (line_marked letter (revival_order_text c)) (lines_marked letter (revival_batch_text cs)), length-append (revival_order_text c) (10 ∷ []))

-- WHICH ORDERS ARE LINES

all_of : (a b : List RevivalOrder) → AllByRecursion OrderIsOneLine a → AllByRecursion OrderIsOneLine b → AllByRecursion OrderIsOneLine (a ++ b)
all_of [] b h k = k
all_of (c ∷ cs) b h k = (h.0, all_of cs b h.1 k)

pub both_lines : (a b : List RevivalOrder) (n m most : ℕ) → OrdersAreLines a n → OrdersAreLines b m → n + m ≤ most → OrdersAreLines (a ++ b) most
both_lines a b n m most h k l = record {
  one_line = all_of a b h.one_line k.one_line;
  few = omega (arith, h.few, k.few, l, length-append a b);
}

pub no_lines : (most : ℕ) → OrdersAreLines [] most
no_lines most = record { one_line = tt; few = omega arith }

pub spelled_line : (line : List ℕ) → SpellsRevivalOrder line → OrderIsOneLine (spelled line)
spelled_line line h = ap (λ (t : List ℕ). has_feed t) (sym h.text) ∙ h.one_line

kept_all : (texts : List ℕ) (lines : List LineSpan) → SpansAreIn texts lines → AllByRecursion OrderIsOneLine (orders_at texts lines)
kept_all texts [] h = tt
kept_all texts (l ∷ ls) h = (spelled_line (line_at texts l) h.0.spells, kept_all texts ls h.1)

-- those that are kept
pub kept_lines : (texts : List ℕ) (lines : List LineSpan) → SpansAreIn texts lines → length lines ≤ LIST_ORDERS → OrdersAreLines (orders_at texts lines) LIST_ORDERS
kept_lines texts lines h k = record {
  one_line = kept_all texts lines h;
  few = omega (arith, k, length-map lines (λ (s : LineSpan). spelled (line_at texts s)));
}

-- THE ORDERS THAT ARE WRITTEN AS THEY COME

one : (c : RevivalOrder) → OrderIsOneLine c → OrdersAreLines (c ∷ []) 1
one c h = record { one_line = (h, tt); few = omega arith }

one_if : (w : Bool) (c : RevivalOrder) → OrderIsOneLine c → OrdersAreLines (if w then c ∷ [] else []) 1
one_if true c h = one c h
one_if false c h = no_lines 1

accepted_lines : (w : Option DialogueState) (life : LifeState) (c : RevivalOrder) → OrderIsOneLine c → OrdersAreLines (accepted_at_once w life c) 1
accepted_lines None life c h = no_lines 1
accepted_lines (Some up) life c h = one_if (takes_at_once life c) c h

read_lines : (s : RevivalState) (line : List ℕ) (o : Option RevivalOrder) → revival_order_in line ≡ o → has_feed line ≡ false → OrdersAreLines (read_at_once s o) 1
read_lines s line None e h = no_lines 1
read_lines s line (Some c) e h = accepted_lines (upper_if_accepted s c) s.life c (ap (λ (t : List ℕ). has_feed t) (sym (asked_text line c e)) ∙ h)

quit_line : OrderIsOneLine orders.Quit
unfolding revival_order_text
quit_line = refl

uci_line : OrderIsOneLine orders.Uci
unfolding revival_order_text
uci_line = refl

ready_line : OrderIsOneLine orders.IsReady
unfolding revival_order_text
ready_line = refl

readies_all : (n : ℕ) → AllByRecursion OrderIsOneLine (readies n)
readies_all zero = tt
readies_all (suc n) = (ready_line, readies_all n)

pub readies_lines : (n : ℕ) → OrdersAreLines (readies n) n
readies_lines n = record { one_line = readies_all n; few = omega (arith, length-replicate n orders.IsReady) }

at_once_by : (w : Bool) (s : RevivalState) (line : List ℕ) → has_feed line ≡ false → OrdersAreLines (if w then quit_to s.quit s.life else read_at_once s (order_of_line line)) 1
at_once_by true s line h = one_if (not s.quit && is_served s.life) orders.Quit quit_line
at_once_by false s line h = read_lines s (trimmed line) (order_of_line line) refl (trimmed_feedless line h)

pub at_once_lines : (s : RevivalState) (line : List ℕ) → has_feed line ≡ false → OrdersAreLines (at_once s line) 1
at_once_lines s line h = at_once_by (is_quit line) s line h

first_by : (w : Bool) → OrdersAreLines (if w then [] else orders.Uci ∷ []) 1
first_by true = no_lines 1
first_by false = one orders.Uci uci_line

pub first_lines : (up : DialogueState) → OrdersAreLines (first_order up) 1
first_lines up = first_by (is_before up)

-- THE ROOM FOR THE MARKS OF A CALL

ready_length : length (revival_order_text orders.IsReady) ≡ 7
unfolding revival_order_text
ready_length = refl

pub readies_length : (n : ℕ) → length (revival_batch_text (readies n)) ≡ 8 * n
readies_length zero = refl
readies_length (suc n) = omega (arith, batch_first orders.IsReady (readies n), ready_length, readies_length n)

pub batch_both : (a b : List RevivalOrder) → length (revival_batch_text (a ++ b)) ≡ length (revival_batch_text a) + length (revival_batch_text b)
batch_both a b = omega (arith, ap (λ (t : List ℕ). length t) (flat_map-append revival_order_line a b), length-append (revival_batch_text a) (revival_batch_text b))

pub due_short : (d : DueOrders) (unsent : List RevivalOrder) (held : ℕ) (search : List RevivalOrder) → length (revival_batch_text unsent) ≤ LIST_BYTES → held ≤ MOST_READY → length (revival_batch_text search) ≤ SEARCH_BYTES
    → length (revival_batch_text (due_orders d unsent held search)) ≤ LIST_BYTES + (READY_BYTES + SEARCH_BYTES)
due_short due.Nothing unsent held search u h s = omega arith
due_short due.Settings unsent held search u h s = omega (arith, u, h, batch_both unsent (readies held), readies_length held)
due_short due.Search unsent held search u h s = omega (arith, u, h, s, batch_both unsent (readies held ++ search), batch_both (readies held) search, readies_length held)

pub readyoks_length : (n : ℕ) → length (readyoks n) ≡ 8 * n
readyoks_length zero = refl
readyoks_length (suc n) = omega (arith, readyoks_length n, length-append (codes "readyok" ++ 10 ∷ []) (readyoks n))

pub answer_short : (a : StandInAnswer) (held : ℕ) → length (stand_in_text a held) ≤ 16 + 8 * held
answer_short answers.Nothing held = omega arith
answer_short answers.UciOk held = omega (arith, readyoks_length held, length-append (codes "uciok" ++ 10 ∷ []) (readyoks held))
answer_short answers.ReadyOk held = omega (arith, readyoks_length held)
answer_short answers.NoMove held = omega (arith, readyoks_length held, length-append (readyoks held) (codes "bestmove 0000" ++ 10 ∷ []))

-- the answers that stand in for the engine have their room
pub answers_short : (s : RevivalState) → IsRoomy s → length (settled_answers s) ≤ 16 + READY_BYTES
answers_short s r = omega (arith, answer_short (answer_of s) s.held_ready, r.ready)

marks_room : (up child : List ℕ) (first more : List RevivalOrder) → length up ≤ UP_ROOM → length child ≤ CHILD_ROOM → child ≡ revival_batch_text (first ++ more) → OrdersAreLines first 1 → OrdersAreLines more DUE_ORDERS → HaveRoom up child
marks_room up child first more u k e f d =
    let all = both_lines first more 1 DUE_ORDERS (1 + DUE_ORDERS) f d (omega arith) in
    let l = marked_length 85 (first ++ more) all.one_line in
    let same : length (lines_marked 85 child) ≡ length (lines_marked 85 (revival_batch_text (first ++ more))) = ap (λ (t : List ℕ). length (lines_marked 85 t)) e in
    let long : length child ≡ length (revival_batch_text (first ++ more)) = ap (λ (t : List ℕ). length t) e in
    omega (arith, all.few, l, same, long, u, k, marked_le 88 up, length-append (lines_marked 88 up) (lines_marked 85 child))

pub call_marks : (up child : List ℕ) (first : List RevivalOrder) (s : RevivalState) → length up ≤ UP_ROOM → child ≡ revival_batch_text first ++ revival_batch_text (settled_orders s) → length (revival_batch_text first) ≤ MOST_LINE + 1
    → OrdersAreLines first 1 → OrdersAreLines (settled_orders s) DUE_ORDERS → IsRoomy s → HaveRoom up child
call_marks up child first s u e k f d r =
    let more = settled_orders s in
    let few : s.held_ready ≤ MOST_READY = omega (arith, r.ready) in
    let short : length (revival_batch_text more) ≤ LIST_BYTES + (READY_BYTES + SEARCH_BYTES) = due_short (due_of s) s.unsent s.held_ready s.search r.unsent few r.search.short in
    let whole : child ≡ revival_batch_text (first ++ more) = e ∙ sym (flat_map-append revival_order_line first more) in
    let long : length child ≤ CHILD_ROOM = omega (arith, k, short, ap (λ (t : List ℕ). length t) e, length-append (revival_batch_text first) (revival_batch_text more)) in
    marks_room up child first more u long whole f d

-- THE MARKS OF A TEXT, LINE BY LINE

-- a line has room where all have
pub marked_room : (letter : ℕ) (held rest line start all : List ℕ) (room : ℕ) → 0 < length rest → line ≡ before_first is_feed rest → held ++ lines_marked letter rest ≡ start ++ lines_marked letter all
    → length start + length (lines_marked letter all) ≤ room → length held + length (line_marked letter line) ≤ room
marked_room letter held rest line start all room h e w r =
    let one = before_first is_feed rest in
    let others = after_first is_feed rest in
    omega (
      arith,
      r,
      ap (λ (t : List ℕ). length t) w,
      ap (λ (t : List ℕ). length t) (lines_first letter rest h),
      ap (λ (t : List ℕ). length (line_marked letter t)) e,
      length-append held (lines_marked letter rest),
      length-append start (lines_marked letter all),
      length-append (line_marked letter one) (lines_marked letter others),
    )
