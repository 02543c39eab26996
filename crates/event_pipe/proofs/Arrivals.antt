-- The arrivals of each sender in the end, and how much is still to be taken.
use Rattle.std.proofs.Common.{◌≡◌, ℕ, ◌+◌, ◌≤◌, suc, List, [], ◌∷◌, ◌++◌, length, Bool, true, false, cond, refl, sym, ap, subst, ◌∙◌, arith}
use Rattle.std.proofs.lemmas.List.{length-append}
use Rattle.crossbeam_channel.specs.Fifo.{Learns}
use Rattle.event_pipe.specs.declared.pipe.KnownOfPass.{KnownOfPass}
use Rattle.event_pipe.specs.declared.pipe.TheConstants.{CHANNEL_ROOM}
use Rattle.event_pipe.specs.declared.message.Peer.{Peer}
use Rattle.event_pipe.specs.declared.message.Peer.TheVariants as peers
use Rattle.event_pipe.specs.Meaning.{MessageMeaning}
use Rattle.event_pipe.specs.Message.{role_of}
use Rattle.event_pipe.specs.Rule.{has_role, messages_of, Orderly, Delivers, Total, joined_first, joined_second}
use Rattle.event_pipe.specs.Ends.{CameFrom}
use Rattle.event_pipe.proofs.Keeps.{of-append, is_own, orderly_after}

module _ {M : Type 0} (means : MessageMeaning M) where
  pub totals : (pass : ℕ) (v : KnownOfPass M) → v.role ≡ 0 → v.joined ≡ 2 → Learns (Delivers means) pass v (Total means v)
  totals pass v zero' joined items views d at =
      let mine = d.fits pass v at in
      let one = mine.first zero' (omega arith) in
      let two = mine.second zero' (omega arith) in
      record {
        first = ap (λ l. messages_of means 1 (l ++ items)) (mine.takes zero') ∙ d.each 1 ∙ sym one.1;
        second = ap (λ l. messages_of means 2 (l ++ items)) (mine.takes zero') ∙ d.each 2 ∙ sym two.1;
        room = d.room;
        first_orderly = subst (Orderly means) (sym one.1) (d.orderly 1);
        second_orderly = subst (Orderly means) (sym two.1) (d.orderly 2);
      }

  pub came : (p : Peer) (taken items sent : List M) → messages_of means (role_of p) (taken ++ items) ≡ sent → Orderly means sent → CameFrom means p taken sent
  came p taken items sent e o =
      let prefix = sym e ∙ of-append means (role_of p) taken items in
      record { left = messages_of means (role_of p) items; prefix = prefix; whole = orderly_after means (messages_of means (role_of p) taken) (messages_of means (role_of p) items) (subst (Orderly means) prefix o) }

  pub came_first : (v a b x y : KnownOfPass M) → a ≡ joined_first v x → b ≡ joined_second a y → (items : List M) → Total means b items → CameFrom means peers.Iface v.taken x.sent
  came_first v a b x y e f items t =
      let taken : b.taken ≡ v.taken = ap (λ (h : KnownOfPass M). h.taken) f ∙ ap (λ (h : KnownOfPass M). h.taken) e in
      let first : b.first ≡ x.sent = ap (λ (h : KnownOfPass M). h.first) f ∙ ap (λ (h : KnownOfPass M). h.first) e in
      came peers.Iface v.taken items x.sent (ap (λ l. messages_of means 1 (l ++ items)) (sym taken) ∙ t.first ∙ first) (subst (Orderly means) first t.first_orderly)

  pub came_second : (v a b x y : KnownOfPass M) → a ≡ joined_first v x → b ≡ joined_second a y → (items : List M) → Total means b items → CameFrom means peers.Engine v.taken y.sent
  came_second v a b x y e f items t =
      let taken : b.taken ≡ v.taken = ap (λ (h : KnownOfPass M). h.taken) f ∙ ap (λ (h : KnownOfPass M). h.taken) e in
      let second : b.second ≡ y.sent = ap (λ (h : KnownOfPass M). h.second) f in
      came peers.Engine v.taken items y.sent (ap (λ l. messages_of means 2 (l ++ items)) (sym taken) ∙ t.second ∙ second) (subst (Orderly means) second t.second_orderly)

  -- an event counts for one role at most
  count_one : (a b : Bool) (l : ℕ) (ms ns : List M) → length ms + length ns ≤ l → (a ≡ true → b ≡ true → ⊥) → (x : M)
      → length (cond a (x ∷ ms) ms) + length (cond b (x ∷ ns) ns) ≤ suc l
  count_one true true l ms ns le apart x = absurd (apart refl refl)
  count_one true false l ms ns le apart x = omega arith
  count_one false true l ms ns le apart x = omega arith
  count_one false false l ms ns le apart x = omega arith

  both_roles : (l : List M) → length (messages_of means 1 l) + length (messages_of means 2 l) ≤ length l
  both_roles [] = omega arith
  both_roles (x ∷ l) =
      count_one (has_role means 1 x) (has_role means 2 x) (length l) (messages_of means 1 l) (messages_of means 2 l) (both_roles l)
      (λ a b. let e = is_own means x 1 a in let f = is_own means x 2 b in omega arith) x

  within : (taken items sent_first sent_second : List M) → messages_of means 1 (taken ++ items) ≡ sent_first → messages_of means 2 (taken ++ items) ≡ sent_second → length items ≤ CHANNEL_ROOM
      → length sent_first + length sent_second ≤ length taken + CHANNEL_ROOM
  within taken items first second e f room =
      let all = both_roles (taken ++ items) in
      let l = length-append taken items in
      let one = ap length e in
      let two = ap length f in
      omega arith

  pub came_within : (v a b x y : KnownOfPass M) → a ≡ joined_first v x → b ≡ joined_second a y → (items : List M) → Total means b items
      → length x.sent + length y.sent ≤ length v.taken + CHANNEL_ROOM
  came_within v a b x y e f items t =
      let taken : b.taken ≡ v.taken = ap (λ (h : KnownOfPass M). h.taken) f ∙ ap (λ (h : KnownOfPass M). h.taken) e in
      let first : b.first ≡ x.sent = ap (λ (h : KnownOfPass M). h.first) f ∙ ap (λ (h : KnownOfPass M). h.first) e in
      let second : b.second ≡ y.sent = ap (λ (h : KnownOfPass M). h.second) f in
      within v.taken items x.sent y.sent (ap (λ l. messages_of means 1 (l ++ items)) (sym taken) ∙ t.first ∙ first) (ap (λ l. messages_of means 2 (l ++ items)) (sym taken) ∙ t.second ∙ second) t.room
