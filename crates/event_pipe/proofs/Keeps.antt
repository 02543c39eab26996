-- The steps of the channel keep its rule.
use Rattle.std.proofs.Common.{◌⊎◌, ◌≡◌, ◌≢◌, ℕ, ◌+◌, ◌<◌, ◌≤◌, zero, suc, List, [], ◌∷◌, ◌++◌, length, Bool, true, false, cond, slice_set, ◌==◌, ◌||◌, refl, sym, ap, subst, ◌∙◌, arith, append_assoc, append-nil, inl, inr}
use Rattle.std.proofs.lemmas.Bool.Decides.{nat_tests}
use Rattle.std.proofs.lemmas.List.{length-append}
use Rattle.std.proofs.lemmas.Bool.{or_parts}
use mathlib.Core.Option.{Option, some, none, some-injective, some-ne-none}
use lib.ListN.{get_elem?}
use Rattle.atomic_table.proofs.Lists.{at_set}
use Rattle.crossbeam_channel.specs.Fifo.{Pushes, Pops, Forks, Merges}
use Rattle.event_pipe.specs.declared.pipe.KnownOfPass.{KnownOfPass}
use Rattle.event_pipe.specs.declared.pipe.TheConstants.{CHANNEL_ROOM}
use Rattle.event_pipe.specs.declared.message.Peer.{Peer}
use Rattle.event_pipe.specs.declared.message.Peer.TheVariants as peers
use Rattle.event_pipe.specs.Meaning.{MessageMeaning}
use Rattle.event_pipe.specs.Message.{role_of}
use Rattle.event_pipe.specs.Rule.{has_role, messages_of, has_last, Orderly, idle, sender, SendAdds, Gets, PassesFitRoles, Delivers, AllGood, joined_first, joined_second}

module _ {M : Type 0} (means : MessageMeaning M) where
  pub of-append : (role : ℕ) (xs ys : List M) → messages_of means role (xs ++ ys) ≡ messages_of means role xs ++ messages_of means role ys
  of-append role [] ys = refl
  of-append role (x ∷ xs) ys = elim (has_role means role x) as (λ b. cond b (x ∷ messages_of means role (xs ++ ys)) (messages_of means role (xs ++ ys)) ≡ cond b (x ∷ messages_of means role xs) (messages_of means role xs) ++ messages_of means role ys)
      [ true ↦ ap (λ l. x ∷ l) (of-append role xs ys) | false ↦ of-append role xs ys ]

  -- one more of one role
  abbrev more : (ℕ → List M) → M → ℕ → List M
  more sent x role = cond (has_role means role x) (sent role ++ x ∷ []) (sent role)

  of_more : (sent : ℕ → List M) (x : M) (role : ℕ) (all : List M) → messages_of means role all ≡ sent role → messages_of means role (all ++ x ∷ []) ≡ more sent x role
  of_more sent x role all e = of-append role all (x ∷ []) ∙ elim (has_role means role x) as (λ b. messages_of means role all ++ cond b (x ∷ []) [] ≡ cond b (sent role ++ x ∷ []) (sent role))
      [ true ↦ ap (λ l. l ++ x ∷ []) e | false ↦ append-nil (messages_of means role all) ∙ e ]

  own : (x : M) → has_role means (means.role x) x ≡ true
  own x = grind (arith, nat_tests)

  other : (x : M) (role : ℕ) → means.role x ≢ role → has_role means role x ≡ false
  other x role n = grind (arith, nat_tests)

  pub is_own : (x : M) (role : ℕ) → has_role means role x ≡ true → means.role x ≡ role
  is_own x role h = grind (arith, nat_tests)

  orderly_snoc : (xs : List M) (x : M) → Orderly means xs → has_last means xs ≡ false → Orderly means (xs ++ x ∷ [])
  orderly_snoc [] x o e = ((λ _. refl), tt)
  orderly_snoc (y ∷ ys) x o e = ((λ t. cc), orderly_snoc ys x o.1 (or_parts (means.is_last y) (has_last means ys) e).1)

  filled : (zs ys : List M) (x : M) → zs ++ x ∷ ys ≡ [] → ⊥
  filled [] ys x h = cc
  filled (z ∷ zs) ys x h = cc

  at_y : (a b : Bool) → (a ≡ true → ⊥) → b ≡ false → (a || b) ≡ false
  at_y true b n h = absurd (n refl)
  at_y false b n h = h

  orderly_before : (xs ys : List M) (x : M) → Orderly means (xs ++ x ∷ ys) → has_last means xs ≡ false
  orderly_before [] ys x o = refl
  orderly_before (y ∷ zs) ys x o = at_y (means.is_last y) (has_last means zs) (λ t. filled zs ys x (o.0 t)) (orderly_before zs ys x o.1)

  tail : (xs ys : List M) → xs ++ ys ≡ [] → ys ≡ []
  tail [] ys h = h
  tail (z ∷ zs) ys h = cc

  at_x : (a b : Bool) (ys : List M) → (a ≡ true → ys ≡ []) → (b ≡ true → ys ≡ []) → (a || b) ≡ true → ys ≡ []
  at_x true b ys f g h = f refl
  at_x false b ys f g h = g h

  pub orderly_after : (xs ys : List M) → Orderly means (xs ++ ys) → has_last means xs ≡ true → ys ≡ []
  orderly_after [] ys o e = cc
  orderly_after (x ∷ xs) ys o e = at_x (means.is_last x) (has_last means xs) ys (λ t. tail xs ys (o.0 t)) (λ t. orderly_after xs ys o.1 t) e

  all_snoc : (xs : List M) (x : M) → AllGood means xs → (means.is_good x ≡ true) × (means.role x ≢ 3) → AllGood means (xs ++ x ∷ [])
  all_snoc [] x a p = (p, tt)
  all_snoc (y ∷ ys) x a p = (a.0, all_snoc ys x a.1 p)

  all_at : (xs ys : List M) (x : M) → AllGood means (xs ++ x ∷ ys) → (means.is_good x ≡ true) × (means.role x ≢ 3)
  all_at [] ys x a = a.0
  all_at (z ∷ zs) ys x a = all_at zs ys x a.1

  at_end : (l : List (KnownOfPass M)) (a b : KnownOfPass M) (j : ℕ) → get_elem? (l ++ a ∷ []) j ≡ some b → (get_elem? l j ≡ some b) ⊎ ((a ≡ b) × (j ≡ length l))
  at_end [] a b zero e = inr (some-injective a b e, refl)
  at_end [] a b (suc j) e = absurd (some-ne-none b (sym e))
  at_end (x ∷ xs) a b zero e = inl e
  at_end (x ∷ xs) a b (suc j) e = elim (at_end xs a b j e) [ inl h ↦ inl h | inr h ↦ inr (h.0, ap suc h.1) ]

  abbrev first_seat : ℕ → Option ℕ
  first_seat zero = some 0
  first_seat (suc r) = none

  later : (r : ℕ) → 0 < r → first_seat r ≡ none
  later zero m = absurd (omega arith)
  later (suc r) m = refl

  pub begins : (Delivers means) [] (idle ∷ [])
  begins = record {
    seat = first_seat;
    sent = λ _. [];
    taken = [];
    each = λ _. refl;
    room = omega arith;
    orderly = λ _. tt;
    good = tt;
    fits = λ k u at. elim (at_end [] idle u k at) [
      | inl h ↦ absurd (some-ne-none u (sym h))
      | inr h ↦ subst (λ (v : KnownOfPass M). PassesFitRoles (first_seat) (λ _. []) [] k v) h.0
          (record {
            seated = λ _. ap some (sym h.1);
            sends = λ a b. refl;
            takes = λ _. refl;
            spare = λ z r m n. (later r m, refl);
            first = λ z j. absurd (omega arith);
            second = λ z j. absurd (omega arith);
          })
    ];
  }

  -- one pass for a role
  one_seat : (seat : ℕ → Option ℕ) (pass k : ℕ) (v u : KnownOfPass M) → v.role ≢ 3 → u.role ≡ v.role → (v.role ≢ 3 → seat v.role ≡ some pass) → (u.role ≢ 3 → seat u.role ≡ some k) → k ≡ pass
  one_seat seat pass k v u n same f g =
      let p = f n in
      let q = g (λ e. n (sym same ∙ e)) in
      let r : seat u.role ≡ seat v.role = ap seat same in
      cc

  own_fits : (seat : ℕ → Option ℕ) (sent : ℕ → List M) (taken : List M) (pass : ℕ) (v : KnownOfPass M) (x : M) → v.role ≡ means.role x → v.role ≢ 3 → v.role ≢ 0
      → PassesFitRoles seat sent taken pass v → PassesFitRoles seat (more sent x) taken pass (record v { sent = v.sent ++ x ∷ [] })
  own_fits seat sent taken pass v x role n3 n0 f = record {
    seated = f.seated;
    sends = λ a b.
        let yes : has_role means v.role x ≡ true = ap (λ r. has_role means r x) role ∙ own x in
        ap (λ l. l ++ x ∷ []) (f.sends a b) ∙ sym (ap (λ b. cond b (sent v.role ++ x ∷ []) (sent v.role)) yes);
    takes = λ z. absurd (n0 z);
    spare = λ z. absurd (n0 z);
    first = λ z. absurd (n0 z);
    second = λ z. absurd (n0 z);
  }

  -- the messages of a role that is not the sender's stay
  kept_sent : (sent : ℕ → List M) (x : M) (role : ℕ) → means.role x ≢ role → more sent x role ≡ sent role
  kept_sent sent x role n = ap (λ b. cond b (sent role ++ x ∷ []) (sent role)) (other x role n)

  other_fits : (seat : ℕ → Option ℕ) (sent : ℕ → List M) (taken : List M) (pass k : ℕ) (v u : KnownOfPass M) (x : M) → v.role ≡ means.role x → v.role ≢ 3 → k ≢ pass
      → PassesFitRoles seat sent taken pass v → PassesFitRoles seat sent taken k u → PassesFitRoles seat (more sent x) taken k u
  other_fits seat sent taken pass k v u x role n3 apart f g =
      let seated = f.seated n3 in
      let not_none : (r : ℕ) → seat r ≡ none → means.role x ≢ r = λ r h e. let s : seat v.role ≡ seat r = ap seat (role ∙ e) in some-ne-none pass (sym seated ∙ s ∙ h) in
      record {
        seated = g.seated;
        sends = λ a b.
            let differ : means.role x ≢ u.role = λ e. apart (one_seat seat pass k v u n3 (sym (role ∙ e)) f.seated g.seated) in
            g.sends a b ∙ sym (kept_sent sent x u.role differ);
        takes = g.takes;
        spare = λ z r m n. let s = g.spare z r m n in (s.0, kept_sent sent x r (not_none r s.0) ∙ s.1);
        first = λ z j. let s = g.first z j in (s.0, s.1 ∙ sym (kept_sent sent x 1 (not_none 1 s.0)));
        second = λ z j. let s = g.second z j in (s.0, s.1 ∙ sym (kept_sent sent x 2 (not_none 2 s.0)));
      }

  orderly_more : (b : Bool) (xs : List M) (x : M) → Orderly means xs → (b ≡ true → has_last means xs ≡ false) → Orderly means (cond b (xs ++ x ∷ []) xs)
  orderly_more true xs x o e = orderly_snoc xs x o (e refl)
  orderly_more false xs x o e = o

  one_more : (items : List M) (x : M) (cap : ℕ) → cap ≡ CHANNEL_ROOM → length items < cap → length (items ++ x ∷ []) ≤ CHANNEL_ROOM
  one_more items x cap e short = let l = length-append items (x ∷ []) in omega arith

  pub puts : (cap pass : ℕ) (v : KnownOfPass M) (x : M) → cap ≡ CHANNEL_ROOM → v.role ≡ means.role x → v.role ≢ 3 → v.role ≢ 0 → has_last means v.sent ≡ false → means.is_good x ≡ true → Pushes (Delivers means) cap pass v x (SendAdds v x)
  puts cap pass v x full role n3 n0 on good items views short d at =
      let w : KnownOfPass M = record v { sent = v.sent ++ x ∷ [] } in
      let mine = d.fits pass v at in (
        w,
        record {
          seat = d.seat;
          sent = more d.sent x;
          taken = d.taken;
          each = λ r. ap (messages_of means r) (sym (append_assoc d.taken items (x ∷ []))) ∙ of_more d.sent x r (d.taken ++ items) (d.each r);
          room = one_more items x cap full short;
          orderly = λ r. orderly_more (has_role means r x) (d.sent r) x (d.orderly r) (λ is. ap (has_last means) (ap d.sent (sym (is_own x r is) ∙ sym role) ∙ sym (mine.sends n3 n0)) ∙ on);
          good = subst (AllGood means) (append_assoc d.taken items (x ∷ [])) (all_snoc (d.taken ++ items) x d.good (good, λ e. n3 (role ∙ e)));
          fits = λ k u there. elim (at_set views pass k w u there) [
            | inl same ↦ subst (λ (h : KnownOfPass M). PassesFitRoles d.seat (more d.sent x) d.taken k h) same.1
                (subst (λ (i : ℕ). PassesFitRoles d.seat (more d.sent x) d.taken i w) (sym same.0) (own_fits d.seat d.sent d.taken pass v x role n3 n0 mine))
            | inr else ↦ other_fits d.seat d.sent d.taken pass k v u x role n3 else.0 mine (d.fits k u else.1)
          ];
        },
        refl,
      )

  -- the next message of a role
  next_of : (taken items : List M) (x : M) → messages_of means (means.role x) (taken ++ x ∷ items) ≡ messages_of means (means.role x) taken ++ x ∷ messages_of means (means.role x) items
  next_of taken items x =
      of-append (means.role x) taken (x ∷ items)
      ∙ ap (λ b. messages_of means (means.role x) taken ++ cond b (x ∷ messages_of means (means.role x) items) (messages_of means (means.role x) items)) (own x)

  receiver_apart : (v : KnownOfPass M) → v.role ≡ 0 → v.role ≢ 3
  receiver_apart v z e = omega arith

  pub takes : (pass : ℕ) (v : KnownOfPass M) → v.role ≡ 0 → Pops (Delivers means) pass v (Gets means v)
  takes pass v zero' x items views d at =
      let w : KnownOfPass M = record v { taken = v.taken ++ x ∷ [] } in
      let mine = d.fits pass v at in
      let r = means.role x in
      let order : Orderly means (messages_of means r d.taken ++ x ∷ messages_of means r items) = subst (Orderly means) (sym (d.each r) ∙ next_of d.taken items x) (d.orderly r) in
      let good = all_at d.taken items x d.good in (
        w,
        record {
          seat = d.seat;
          sent = d.sent;
          taken = d.taken ++ x ∷ [];
          each = λ r. ap (messages_of means r) (append_assoc d.taken (x ∷ []) items) ∙ d.each r;
          room = let more = d.room in omega arith;
          orderly = d.orderly;
          good = subst (AllGood means) (sym (append_assoc d.taken (x ∷ []) items)) d.good;
          fits = λ k u there. elim (at_set views pass k w u there) [
            | inl same ↦ subst (λ (h : KnownOfPass M). PassesFitRoles d.seat d.sent (d.taken ++ x ∷ []) k h) same.1
                (record {
                  seated = λ n. mine.seated n ∙ ap some (sym same.0);
                  sends = λ a b. absurd (b zero');
                  takes = λ _. ap (λ l. l ++ x ∷ []) (mine.takes zero');
                  spare = mine.spare;
                  first = mine.first;
                  second = mine.second;
                })
            | inr else ↦
                let g = d.fits k u else.1 in
                record {
                  seated = g.seated;
                  sends = g.sends;
                  takes = λ z. absurd (else.0 (one_seat d.seat pass k v u (receiver_apart v zero') (z ∙ sym zero') mine.seated g.seated));
                  spare = g.spare;
                  first = g.first;
                  second = g.second;
                }
          ];
        },
        (refl, (ap (λ l. has_last means (messages_of means r l)) (mine.takes zero') ∙ orderly_before (messages_of means r d.taken) (messages_of means r items) x order, good.0, good.1)),
      )

  abbrev seat_at : (ℕ → Option ℕ) → ℕ → Option ℕ → ℕ → Option ℕ
  seat_at seat r o k = cond (k == r) o (seat k)

  seat_here : (seat : ℕ → Option ℕ) (r : ℕ) (o : Option ℕ) (k : ℕ) → k ≡ r → seat_at seat r o k ≡ o
  seat_here seat r o k e = let h : (k == r) ≡ true = grind (arith, nat_tests) in ap (λ b. cond b o (seat k)) h

  seat_else : (seat : ℕ → Option ℕ) (r : ℕ) (o : Option ℕ) (k : ℕ) → k ≢ r → seat_at seat r o k ≡ seat k
  seat_else seat r o k n = let h : (k == r) ≡ false = grind (arith, nat_tests) in ap (λ b. cond b o (seat k)) h

  pub forks : (role pass : ℕ) (v : KnownOfPass M) → v.role ≡ 0 → v.made + 1 ≡ role → role < 3 → v.joined ≡ 0 → Forks (Delivers means) pass v (record v { made = role }) (sender role)
  forks role pass v zero' made low joined items views d at =
      let left : KnownOfPass M = record v { made = role } in
      let vs = slice_set views pass left in
      let mine = d.fits pass v at in
      let free = mine.spare zero' role (omega arith) (λ e. omega arith) in
      let seat : ℕ → Option ℕ = seat_at d.seat role (some (length vs)) in
      let not_role : (r k : ℕ) → d.seat r ≡ some k → r ≢ role = λ r k h e. some-ne-none k (sym h ∙ ap d.seat e ∙ free.0) in
      record {
        seat = seat;
        sent = d.sent;
        taken = d.taken;
        each = d.each;
        room = d.room;
        orderly = d.orderly;
        good = d.good;
        fits = λ k u there. elim (at_end vs (sender role) u k there) [
          | inl old ↦ elim (at_set views pass k left u old) [
            | inl same ↦ subst (λ (h : KnownOfPass M). PassesFitRoles seat d.sent d.taken k h) same.1
                (record {
                  seated = λ n. seat_else d.seat role (some (length vs)) v.role (not_role v.role pass (mine.seated n)) ∙ mine.seated n ∙ ap some (sym same.0);
                  sends = λ a b. absurd (b zero');
                  takes = mine.takes;
                  spare = λ z r m n. let s = mine.spare zero' r (omega arith) n in (seat_else d.seat role (some (length vs)) r (λ e. omega arith) ∙ s.0, s.1);
                  first = λ z j. absurd (omega arith);
                  second = λ z j. absurd (omega arith);
                })
            | inr else ↦
                let g = d.fits k u else.1 in
                let no_receiver : u.role ≢ 0 = λ z. else.0 (one_seat d.seat pass k v u (receiver_apart v zero') (z ∙ sym zero') mine.seated g.seated) in
                record {
                  seated = λ n. seat_else d.seat role (some (length vs)) u.role (not_role u.role k (g.seated n)) ∙ g.seated n;
                  sends = g.sends;
                  takes = g.takes;
                  spare = λ z. absurd (no_receiver z);
                  first = λ z. absurd (no_receiver z);
                  second = λ z. absurd (no_receiver z);
                }
          ]
          | inr new ↦ subst (λ (h : KnownOfPass M). PassesFitRoles seat d.sent d.taken k h) new.0
              (record {
                seated = λ n. seat_here d.seat role (some (length vs)) role refl ∙ ap some (sym new.1);
                sends = λ a b. sym free.1;
                takes = λ z. absurd (omega arith);
                spare = λ z. absurd (omega arith);
                first = λ z. absurd (omega arith);
                second = λ z. absurd (omega arith);
              })
        ];
      }

  -- how the receiving end's view changes when a sender is taken in
  module _ (role pass : ℕ) (v : KnownOfPass M) (from : ℕ) (w both : KnownOfPass M) (zero' : v.role ≡ 0) (made : v.made ≡ 2) (mine_role : w.role ≡ role) (low : role < 3) (some' : 0 < role)
      (same_role : both.role ≡ v.role) (same_made : both.made ≡ v.made) (same_taken : both.taken ≡ v.taken) where
    pub merges : ((seat : ℕ → Option ℕ) (sent : ℕ → List M) → (0 < v.joined → (seat 1 ≡ none) × (v.first ≡ sent 1)) → (1 < v.joined → (seat 2 ≡ none) × (v.second ≡ sent 2)) → w.sent ≡ sent role
        → (0 < both.joined → (seat_at seat role none 1 ≡ none) × (both.first ≡ sent 1)) × (1 < both.joined → (seat_at seat role none 2 ≡ none) × (both.second ≡ sent 2)))
        → Merges (Delivers means) pass v from w both (sender 3)
    merges knows items views d at apart at' =
        let vs = slice_set views pass both in
        let mine = d.fits pass v at in
        let was : get_elem? views from ≡ some w = elim (at_set views pass from both w at') [ inl x ↦ absurd (apart x.0) | inr x ↦ x.1 ] in
        let theirs = d.fits from w was in
        let w3 : w.role ≢ 3 = λ e. omega arith in
        let w0 : w.role ≢ 0 = λ e. omega arith in
        let seat : ℕ → Option ℕ = seat_at d.seat role none in
        let k' = knows d.seat d.sent (mine.first zero') (mine.second zero') (theirs.sends w3 w0 ∙ ap d.sent mine_role) in
        record {
          seat = seat;
          sent = d.sent;
          taken = d.taken;
          each = d.each;
          room = d.room;
          orderly = d.orderly;
          good = d.good;
          fits = λ k u there. elim (at_set vs from k (sender 3) u there) [
            | inl same ↦ subst (λ (h : KnownOfPass M). PassesFitRoles seat d.sent d.taken k h) same.1
                (record {
                  seated = λ n. absurd (n refl);
                  sends = λ n. absurd (n refl);
                  takes = λ z. absurd (omega arith);
                  spare = λ z. absurd (omega arith);
                  first = λ z. absurd (omega arith);
                  second = λ z. absurd (omega arith);
                })
            | inr else ↦ elim (at_set views pass k both u else.1) [
              | inl same ↦ subst (λ (h : KnownOfPass M). PassesFitRoles seat d.sent d.taken k h) same.1
                  (record {
                    seated = λ n. seat_else d.seat role none both.role (λ e. omega arith) ∙ ap d.seat same_role ∙ mine.seated (receiver_apart v zero') ∙ ap some (sym same.0);
                    sends = λ a b. absurd (b (same_role ∙ zero'));
                    takes = λ _. same_taken ∙ mine.takes zero';
                    spare = λ z r m n. let s = mine.spare zero' r (omega arith) n in (seat_else d.seat role none r (λ e. omega arith) ∙ s.0, s.1);
                    first = λ z. k'.0;
                    second = λ z. k'.1;
                  })
              | inr old ↦
                  let g = d.fits k u old.1 in
                  let no_receiver : u.role ≢ 0 = λ z. old.0 (one_seat d.seat pass k v u (receiver_apart v zero') (z ∙ sym zero') mine.seated g.seated) in
                  let no_role : u.role ≢ role = λ e. else.0 (one_seat d.seat from k w u w3 (e ∙ sym mine_role) theirs.seated g.seated) in
                  record {
                    seated = λ n. seat_else d.seat role none u.role no_role ∙ g.seated n;
                    sends = g.sends;
                    takes = g.takes;
                    spare = λ z. absurd (no_receiver z);
                    first = λ z. absurd (no_receiver z);
                    second = λ z. absurd (no_receiver z);
                  }
            ]
          ];
        }

  pub merges_first : (pass : ℕ) (v : KnownOfPass M) (from : ℕ) (w : KnownOfPass M) → v.role ≡ 0 → v.made ≡ 2 → v.joined ≡ 0 → w.role ≡ 1 → Merges (Delivers means) pass v from w (joined_first v w) (sender 3)
  merges_first pass v from w zero' made joined role =
      merges 1 pass v from w (joined_first v w) zero' made role (omega arith) (omega arith) refl refl refl
      (λ seat sent f s e. ((λ _. (refl, e)), λ j. absurd (omega arith)))

  pub merges_second : (pass : ℕ) (v : KnownOfPass M) (from : ℕ) (w : KnownOfPass M) → v.role ≡ 0 → v.made ≡ 2 → v.joined ≡ 1 → w.role ≡ 2 → Merges (Delivers means) pass v from w (joined_second v w) (sender 3)
  merges_second pass v from w zero' made joined role =
      merges 2 pass v from w (joined_second v w) zero' made role (omega arith) (omega arith) refl refl refl
      (λ seat sent f s e. ((λ _. f (omega arith)), λ j. (refl, e)))

pub role_low : (p : Peer) → role_of p ≢ 0
role_low peers.Iface e = omega arith
role_low peers.Engine e = omega arith

pub role_high : (p : Peer) → role_of p ≢ 3
role_high peers.Iface e = omega arith
role_high peers.Engine e = omega arith
