-- The orders that begin a search, in both directions.
use Rattle.std.proofs.Common.{◌≡◌, ℕ, ◌<◌, ◌^◌, List, [], ◌∷◌, ◌++◌, Bool, true, false, not, ◌&&◌, ltb, Option, Some, None, codes, decimal, refl, sym, ap, ◌∙◌, append_assoc}
use Rattle.std.proofs.lemmas.Bool.{ltb-true, and_parts}
use Rattle.std.proofs.lemmas.List.{append-nil}
use Rattle.uci_lines.specs.declared.orders.GoControl.{GoControl}
use Rattle.uci_lines.specs.declared.orders.GoControl.TheVariants.{Infinite, MoveTime, Clock}
use Rattle.uci_lines.specs.Orders.{Order, Go, optional_number, ponder_text, control_text}
use Rattle.uci_lines.specs.Behind.{after, number_behind, number_or, perhaps_number}
use Rattle.uci_lines.specs.Written.{is_count, is_positive}
use Rattle.uci_lines.specs.OrderReading.{is_positive_or_none, is_none_of, is_search, is_writable_order, order_where, clock_one, clock_two, clock_three, clock_four, clock_in, time_or_clock, infinite_or, control_in, has_no_token, search_end, search_with, ponder_or, search_in}
use Rattle.uci_lines.proofs.Prefixes.{BeginsWhite}
use Rattle.uci_lines.proofs.Stripped.{word_after}
use Rattle.uci_lines.proofs.Counts.{number_takes, number_again, perhaps_takes}

-- The reading is what is written.
pub record Found (text : List ℕ) (found : GoControl × List ℕ) : Type 0 where
  pub whole : text ≡ control_text found.0 ++ found.1

pair_is : (control : GoControl) (others : List ℕ) (found : GoControl × List ℕ) (text : List ℕ) → Some (control, others) ≡ Some found → text ≡ control_text control ++ others → text ≡ control_text found.0 ++ found.1
pair_is control others found text h e =
    let same : (control, others) ≡ found = cc in
    e ∙ ap (λ (x : GoControl × List ℕ). control_text x.0 ++ x.1) same

four_takes : (w b i : ℕ) (text : List ℕ) (o : Option (ℕ × List ℕ)) (found : GoControl × List ℕ) → number_behind (codes " binc ") text ≡ o → clock_four w b i o ≡ Some found → codes " wtime " ++ (decimal w ++ (codes " btime " ++ (decimal b ++ (codes " winc " ++ (decimal i ++ text))))) ≡ control_text found.0 ++ found.1
four_takes w b i text None found e h = absurd (cc)
four_takes w b i text (Some binc) found e h =
    let last = perhaps_takes (codes " movestogo ") binc.1 in
    let togo = (perhaps_number (codes " movestogo ") binc.1).0 in
    let others = (perhaps_number (codes " movestogo ") binc.1).1 in
    let inside : text ≡ codes " binc " ++ (decimal binc.0 ++ (optional_number (codes " movestogo ") togo ++ others)) = number_takes (codes " binc ") text binc e ∙ ap (λ t. codes " binc " ++ (decimal binc.0 ++ t)) last in
    pair_is (Clock w b i binc.0 togo) others found _ h
    (ap (λ t. codes " wtime " ++ (decimal w ++ (codes " btime " ++ (decimal b ++ (codes " winc " ++ (decimal i ++ t)))))) inside
    ∙ regrouped w b i binc.0 (optional_number (codes " movestogo ") togo) others)
  where
    regrouped : (x y z u : ℕ) (m t : List ℕ) → codes " wtime " ++ (decimal x ++ (codes " btime " ++ (decimal y ++ (codes " winc " ++ (decimal z ++ (codes " binc " ++ (decimal u ++ (m ++ t)))))))) ≡ (codes " wtime " ++ decimal x ++ codes " btime " ++ decimal y ++ codes " winc " ++ decimal z ++ codes " binc " ++ decimal u ++ m) ++ t
    regrouped x y z u m t = simp append_assoc

three_takes : (w b : ℕ) (text : List ℕ) (o : Option (ℕ × List ℕ)) (found : GoControl × List ℕ) → number_behind (codes " winc ") text ≡ o → clock_three w b o ≡ Some found → codes " wtime " ++ (decimal w ++ (codes " btime " ++ (decimal b ++ text))) ≡ control_text found.0 ++ found.1
three_takes w b text None found e h = absurd (cc)
three_takes w b text (Some winc) found e h =
    ap (λ t. codes " wtime " ++ (decimal w ++ (codes " btime " ++ (decimal b ++ t)))) (number_takes (codes " winc ") text winc e)
    ∙ four_takes w b winc.0 winc.1 (number_behind (codes " binc ") winc.1) found refl h

two_takes : (w : ℕ) (text : List ℕ) (o : Option (ℕ × List ℕ)) (found : GoControl × List ℕ) → number_behind (codes " btime ") text ≡ o → clock_two w o ≡ Some found → codes " wtime " ++ (decimal w ++ text) ≡ control_text found.0 ++ found.1
two_takes w text None found e h = absurd (cc)
two_takes w text (Some btime) found e h =
    ap (λ t. codes " wtime " ++ (decimal w ++ t)) (number_takes (codes " btime ") text btime e)
    ∙ three_takes w btime.0 btime.1 (number_behind (codes " winc ") btime.1) found refl h

one_takes : (text : List ℕ) (o : Option (ℕ × List ℕ)) (found : GoControl × List ℕ) → number_behind (codes " wtime ") text ≡ o → clock_one o ≡ Some found → text ≡ control_text found.0 ++ found.1
one_takes text None found e h = absurd (cc)
one_takes text (Some wtime) found e h =
    number_takes (codes " wtime ") text wtime e
    ∙ two_takes wtime.0 wtime.1 (number_behind (codes " btime ") wtime.1) found refl h

time_takes : (text : List ℕ) (o : Option (ℕ × List ℕ)) (found : GoControl × List ℕ) → number_behind (codes " movetime ") text ≡ o → time_or_clock o text ≡ Some found → text ≡ control_text found.0 ++ found.1
unfolding clock_in
time_takes text None found e h = one_takes text (number_behind (codes " wtime ") text) found refl h
time_takes text (Some time) found e h =
    pair_is (MoveTime time.0) time.1 found text h (number_takes (codes " movetime ") text time e ∙ sym (append_assoc (codes " movetime ") (decimal time.0) time.1))

infinite_takes : (text : List ℕ) (o : Option (List ℕ)) (found : GoControl × List ℕ) → after (codes " infinite") text ≡ o → infinite_or o text ≡ Some found → text ≡ control_text found.0 ++ found.1
infinite_takes text None found e h = time_takes text (number_behind (codes " movetime ") text) found refl h
infinite_takes text (Some others) found e h = pair_is Infinite others found text h (word_after (codes " infinite") text others e)

control_takes : (text : List ℕ) (found : GoControl × List ℕ) → control_in text ≡ Some found → text ≡ control_text found.0 ++ found.1
unfolding control_in
control_takes text found h = infinite_takes text (after (codes " infinite") text) found refl h

-- The request, and that it may be made.
pub record Asks (text : List ℕ) (order : Order) (written : List ℕ) : Type 0 where
  pub fits : is_writable_order order ≡ true
  pub whole : text ≡ written

pub true_where : (t : Bool) (order c : Order) → order_where t order ≡ Some c → (t ≡ true) × (order ≡ c)
true_where true order c h = (refl, cc)
true_where false order c h = absurd (cc)

nil_is : (text : List ℕ) → has_no_token text ≡ true → text ≡ []
nil_is [] h = refl
nil_is (b ∷ bs) h = absurd (cc)

-- after the word `go`, as the text of an order
abbrev pub SearchIs : List ℕ → Order → Type 0
SearchIs text c = (ponder : Bool) × (control : GoControl) × (depth : Option ℕ) × (c ≡ Go ponder control depth) × (is_search ponder control depth ≡ true) × (text ≡ ponder_text ponder ++ (control_text control ++ optional_number (codes " depth ") depth))

with_takes : (ponder : Bool) (text inner : List ℕ) (o : Option (GoControl × List ℕ)) (c : Order) → text ≡ ponder_text ponder ++ inner → control_in inner ≡ o → search_with ponder o ≡ Some c → SearchIs text c
with_takes ponder text inner None c e f h = absurd (cc)
with_takes ponder text inner (Some found) c e f h =
    let depth = perhaps_number (codes " depth ") found.1 in
    let both = true_where (has_no_token depth.1 && is_search ponder found.0 depth.0) (Go ponder found.0 depth.0) c h in
    let tests = and_parts (has_no_token depth.1) (is_search ponder found.0 depth.0) both.0 in
    let last : found.1 ≡ optional_number (codes " depth ") depth.0 = perhaps_takes (codes " depth ") found.1 ∙ ap (λ t. optional_number (codes " depth ") depth.0 ++ t) (nil_is depth.1 tests.0) ∙ append-nil (optional_number (codes " depth ") depth.0) in
    (ponder, found.0, depth.0, sym both.1, tests.1, e ∙ ap (λ t. ponder_text ponder ++ t) (control_takes inner found f ∙ ap (λ t. control_text found.0 ++ t) last))

ponder_takes : (text : List ℕ) (o : Option (List ℕ)) (c : Order) → after (codes " ponder") text ≡ o → ponder_or o text ≡ Some c → SearchIs text c
ponder_takes text None c e h = with_takes false text text (control_in text) c refl refl h
ponder_takes text (Some others) c e h = with_takes true text others (control_in others) c (word_after (codes " ponder") text others e) refl h

pub search_takes : (text : List ℕ) (c : Order) → search_in text ≡ Some c → SearchIs text c
search_takes text c h = ponder_takes text (after (codes " ponder") text) c refl h

-- The other way round: what is written is read.
pub count_below : (n : ℕ) → is_count n ≡ true → n < 10 ^ 18
count_below n h = ltb-true n (10 ^ 18) h

pub positive_below : (n : ℕ) → is_positive n ≡ true → n < 10 ^ 18
positive_below n h = count_below n (and_parts (ltb 0 n) (is_count n) h).1

abbrev depth_text : Option ℕ → List ℕ
depth_text depth = optional_number (codes " depth ") depth

depth_white : (depth : Option ℕ) → BeginsWhite (depth_text depth)
depth_white None = tt
depth_white (Some n) = refl

no_togo : (depth : Option ℕ) → number_behind (codes " movestogo ") (depth_text depth) ≡ None
unfolding number_behind
no_togo None = refl
no_togo (Some n) = refl

no_depth : number_behind (codes " depth ") [] ≡ None
unfolding number_behind
no_depth = refl

perhaps_again : (word more : List ℕ) (n : Option ℕ) → is_positive_or_none n ≡ true → BeginsWhite more → number_behind word more ≡ None → perhaps_number word (optional_number word n ++ more) ≡ (n, more)
perhaps_again word more None h w e = ap (λ o. number_or o more) e
perhaps_again word more (Some n) h w e =
    ap (perhaps_number word) (append_assoc word (decimal n) more)
    ∙ ap (λ o. number_or o (word ++ (decimal n ++ more))) (number_again word more n (positive_below n h) w)

time_again : (time : ℕ) (more : List ℕ) → is_positive time ≡ true → BeginsWhite more → control_in (control_text (MoveTime time) ++ more) ≡ Some (MoveTime time, more)
unfolding control_in
time_again time more h w =
    ap (λ t. infinite_or (after (codes " infinite") t) t) (append_assoc (codes " movetime ") (decimal time) more)
    ∙ ap (λ o. time_or_clock o (codes " movetime " ++ (decimal time ++ more))) (number_again (codes " movetime ") more time (positive_below time h) w)

no_time : (word : List ℕ) → number_behind (codes " movetime ") (codes " wtime " ++ word) ≡ None
unfolding number_behind
no_time word = refl

togo_white : (m depth : Option ℕ) → BeginsWhite (optional_number (codes " movestogo ") m ++ depth_text depth)
togo_white None depth = depth_white depth
togo_white (Some n) depth = refl

clock_again : (w b i j : ℕ) (m depth : Option ℕ) → is_positive w ≡ true → is_positive b ≡ true → is_count i ≡ true → is_count j ≡ true → is_positive_or_none m ≡ true → control_in (control_text (Clock w b i j m) ++ depth_text depth) ≡ Some (Clock w b i j m, depth_text depth)
unfolding control_in clock_in
clock_again w b i j m depth hw hb hi hj hm =
    let end = optional_number (codes " movestogo ") m ++ depth_text depth in
    let four = codes " binc " ++ (decimal j ++ end) in
    let three = codes " winc " ++ (decimal i ++ four) in
    let two = codes " btime " ++ (decimal b ++ three) in
    let all = codes " wtime " ++ (decimal w ++ two) in
    let whole : control_text (Clock w b i j m) ++ depth_text depth ≡ all = simp append_assoc in
    let last = perhaps_again (codes " movestogo ") (depth_text depth) m hm (depth_white depth) (no_togo depth) in
    ap (λ t. infinite_or (after (codes " infinite") t) t) whole
    ∙ ap (λ o. time_or_clock o all) (no_time (decimal w ++ two))
    ∙ ap clock_one (number_again (codes " wtime ") two w (positive_below w hw) refl)
    ∙ ap (clock_two w) (number_again (codes " btime ") three b (positive_below b hb) refl)
    ∙ ap (clock_three w b) (number_again (codes " winc ") four i (count_below i hi) refl)
    ∙ ap (clock_four w b i) (number_again (codes " binc ") end j (count_below j hj) (togo_white m depth))
    ∙ ap (λ (p : Option ℕ × List ℕ). Some (Clock w b i j p.0, p.1)) last

control_again : (ponder : Bool) (control : GoControl) (depth : Option ℕ) → is_search ponder control depth ≡ true → control_in (control_text control ++ depth_text depth) ≡ Some (control, depth_text depth)
unfolding control_in
control_again ponder Infinite depth h = refl
control_again ponder (MoveTime time) depth h = time_again time (depth_text depth) (and_parts (is_positive time) (is_positive_or_none depth) h).0 (depth_white depth)
control_again ponder (Clock w b i j m) depth h =
    let e = and_parts (is_positive w && is_positive b && is_count i && is_count j && is_positive_or_none m) (is_positive_or_none depth) h in
    let d = and_parts (is_positive w && is_positive b && is_count i && is_count j) (is_positive_or_none m) e.0 in
    let c = and_parts (is_positive w && is_positive b && is_count i) (is_count j) d.0 in
    let k = and_parts (is_positive w && is_positive b) (is_count i) c.0 in
    let a = and_parts (is_positive w) (is_positive b) k.0 in
    clock_again w b i j m depth a.0 a.1 k.1 c.1 d.1

none_positive : (depth : Option ℕ) → is_none_of depth ≡ true → is_positive_or_none depth ≡ true
none_positive None h = refl
none_positive (Some n) h = absurd (cc)

pub depth_fits : (ponder : Bool) (control : GoControl) (depth : Option ℕ) → is_search ponder control depth ≡ true → is_positive_or_none depth ≡ true
depth_fits ponder Infinite depth h = none_positive depth (and_parts (not ponder) (is_none_of depth) h).1
depth_fits ponder (MoveTime time) depth h = (and_parts (is_positive time) (is_positive_or_none depth) h).1
depth_fits ponder (Clock w b i j m) depth h = (and_parts (is_positive w && is_positive b && is_count i && is_count j && is_positive_or_none m) (is_positive_or_none depth) h).1

with_again : (ponder : Bool) (control : GoControl) (depth : Option ℕ) → is_search ponder control depth ≡ true → search_with ponder (control_in (control_text control ++ depth_text depth)) ≡ Some (Go ponder control depth)
with_again ponder control depth h =
    let last : perhaps_number (codes " depth ") (depth_text depth) ≡ (depth, []) =
    ap (perhaps_number (codes " depth ")) (sym (append-nil (depth_text depth))) ∙ perhaps_again (codes " depth ") [] depth (depth_fits ponder control depth h) tt no_depth in
    ap (search_with ponder) (control_again ponder control depth h)
    ∙ ap (search_end ponder control) last
    ∙ ap (λ t. order_where t (Go ponder control depth)) h

no_ponder : (control : GoControl) (more : List ℕ) → after (codes " ponder") (control_text control ++ more) ≡ None
no_ponder Infinite more = refl
no_ponder (MoveTime time) more = refl
no_ponder (Clock w b i j m) more = refl

pub search_again : (ponder : Bool) (control : GoControl) (depth : Option ℕ) → is_search ponder control depth ≡ true → search_in (ponder_text ponder ++ (control_text control ++ depth_text depth)) ≡ Some (Go ponder control depth)
search_again false control depth h = ap (λ o. ponder_or o (control_text control ++ depth_text depth)) (no_ponder control (depth_text depth)) ∙ with_again false control depth h
search_again true control depth h = with_again true control depth h
