-- The values that lines spell, and those that are read.
use Rattle.std.proofs.Common.{◌≡◌, ◌⊎◌, ℕ, List, [], ◌∷◌, length, Bool, true, false, cond, ◌&&◌, Option, Some, None, Result, Ok, Err, IfOk, OnErr, ap, sym, ◌∙◌, refl, subst, arith, inl, inr}
use Rattle.std.specs.Prelude.{◌==◌}
use Rattle.std.proofs.lemmas.Bool.Decides.{nat_tests}
use Rattle.std.proofs.lemmas.Bool.{and_parts}
use Rattle.std.proofs.lemmas.Option.{same_Some}
use Rattle.line_io.specs.Event.{Event, Open, Iface, IfaceLong, IfaceEnd, IfaceLost, Engine, EngineLong, EngineEnd, EngineLost, is_line}
use Rattle.script_lines.specs.Marks.{Mark, Happens, ToIface, ToEngine, is_written, is_empty_line, iface_event, engine_event, happens, mark_spelled, mark_text, event_mark_text, mark_if_read, plain_mark, IsMarkSpelled, SpellsMark, SpellsNone}
use Rattle.script_lines.specs.declared.marks.Mark as code
use Rattle.script_lines.specs.declared.marks.BadMark.{BadMark}

-- which way a test went
chosen : {A : Type 0} {x y z : A} (b : Bool) → cond b x y ≡ z → ((b ≡ true) × (x ≡ z)) ⊎ ((b ≡ false) × (y ≡ z))
chosen true e = inl (refl, e)
chosen false e = inr (refl, e)

empty_is : (xs : List ℕ) → is_empty_line xs ≡ true → xs ≡ []
empty_is [] e = refl
empty_is (x ∷ xs) e = absurd (let n : length (x ∷ xs) ≡ 0 = grind (arith, nat_tests) in omega arith)

same_code : (a b : ℕ) → (a == b) ≡ true → a ≡ b
same_code a b e = grind (arith, nat_tests)

pub none_some : {A B : Type 0} {x : A} → None ≡ Some x → B
none_some e = cc

-- a sign and nothing after it
alone : (letter sign code : ℕ) (rest : List ℕ) → (sign == code && is_empty_line rest) ≡ true → letter ∷ sign ∷ rest ≡ letter ∷ code ∷ []
alone letter sign code rest e =
    let p = and_parts (sign == code) (is_empty_line rest) e in
    ap (λ s. letter ∷ s ∷ rest) (same_code sign code p.0) ∙ ap (λ r. letter ∷ code ∷ r) (empty_is rest p.1)

-- a blank, and a line after it
behind : (letter sign : ℕ) (rest : List ℕ) (is : Bool) → (sign == 32 && is) ≡ true → (is ≡ true) × (letter ∷ sign ∷ rest ≡ letter ∷ 32 ∷ rest)
behind letter sign rest is e =
    let p = and_parts (sign == 32) is e in
    (p.1, ap (λ s. letter ∷ s ∷ rest) (same_code sign 32 p.0))

iface_reported : (sign : ℕ) (rest : List ℕ) (e : Event) → iface_event sign rest ≡ Some e → IsMarkSpelled (Happens e) × (120 ∷ sign ∷ rest ≡ event_mark_text e)
iface_reported sign rest e h =
    let reported : (x : Event) → Some x ≡ Some e → IsMarkSpelled (Happens x) × (120 ∷ sign ∷ rest ≡ event_mark_text x) → IsMarkSpelled (Happens e) × (120 ∷ sign ∷ rest ≡ event_mark_text e) =
    λ x s. subst (λ (y : Event). IsMarkSpelled (Happens y) × (120 ∷ sign ∷ rest ≡ event_mark_text y)) (same_Some x e s) in
    elim (chosen (sign == 32 && is_line rest) h) [
      | inl a ↦ reported (Iface rest) a.1 (behind 120 sign rest (is_line rest) a.0)
      | inr b ↦ elim (chosen (sign == 33 && is_empty_line rest) b.1) [
        | inl a ↦ reported IfaceLong a.1 (tt, alone 120 sign 33 rest a.0)
        | inr c ↦ elim (chosen (sign == 46 && is_empty_line rest) c.1) [
          | inl a ↦ reported IfaceEnd a.1 (tt, alone 120 sign 46 rest a.0)
          | inr d ↦ elim (chosen (sign == 63 && is_empty_line rest) d.1) [
            | inl a ↦ reported IfaceLost a.1 (tt, alone 120 sign 63 rest a.0)
            | inr n ↦ none_some n.1
          ]
        ]
      ]
    ]

engine_reported : (sign : ℕ) (rest : List ℕ) (e : Event) → engine_event sign rest ≡ Some e → IsMarkSpelled (Happens e) × (117 ∷ sign ∷ rest ≡ event_mark_text e)
engine_reported sign rest e h =
    let reported : (x : Event) → Some x ≡ Some e → IsMarkSpelled (Happens x) × (117 ∷ sign ∷ rest ≡ event_mark_text x) → IsMarkSpelled (Happens e) × (117 ∷ sign ∷ rest ≡ event_mark_text e) =
    λ x s. subst (λ (y : Event). IsMarkSpelled (Happens y) × (117 ∷ sign ∷ rest ≡ event_mark_text y)) (same_Some x e s) in
    elim (chosen (sign == 32 && is_line rest) h) [
      | inl a ↦ reported (Engine rest) a.1 (behind 117 sign rest (is_line rest) a.0)
      | inr b ↦ elim (chosen (sign == 33 && is_empty_line rest) b.1) [
        | inl a ↦ reported EngineLong a.1 (tt, alone 117 sign 33 rest a.0)
        | inr c ↦ elim (chosen (sign == 46 && is_empty_line rest) c.1) [
          | inl a ↦ reported EngineEnd a.1 (tt, alone 117 sign 46 rest a.0)
          | inr d ↦ elim (chosen (sign == 63 && is_empty_line rest) d.1) [
            | inl a ↦ reported EngineLost a.1 (tt, alone 117 sign 63 rest a.0)
            | inr n ↦ none_some n.1
          ]
        ]
      ]
    ]

happens_is : (o : Option Event) (mark : Mark) → happens o ≡ Some mark → (e : Event) × (o ≡ Some e) × (Happens e ≡ mark)
happens_is (Some e) mark h = (e, refl, same_Some (Happens e) mark h)
happens_is None mark h = none_some h

-- what is read is spelled so
pub read_spelled : (line : List ℕ) (mark : Mark) → mark_spelled line ≡ Some mark → SpellsMark line mark
read_spelled [] mark h = none_some h
read_spelled (letter ∷ []) mark h = none_some h
read_spelled (letter ∷ sign ∷ rest) mark h =
    let line = letter ∷ sign ∷ rest in
    elim (chosen (letter == 120) h) [
      | inl a ↦
          let e = happens_is (iface_event sign rest) mark a.1 in
          let t = iface_reported sign rest e.0 e.1 in
          subst (SpellsMark line) e.2 (t.0, ap (λ l. l ∷ sign ∷ rest) (same_code letter 120 a.0) ∙ t.1)
      | inr b ↦ elim (chosen (letter == 117) b.1) [
        | inl a ↦
            let e = happens_is (engine_event sign rest) mark a.1 in
            let t = engine_reported sign rest e.0 e.1 in
            subst (SpellsMark line) e.2 (t.0, ap (λ l. l ∷ sign ∷ rest) (same_code letter 117 a.0) ∙ t.1)
        | inr c ↦ elim (chosen (letter == 88 && (sign == 32 && is_written rest)) c.1) [
          | inl a ↦
              let p = and_parts (letter == 88) (sign == 32 && is_written rest) a.0 in
              let q = behind 88 sign rest (is_written rest) p.1 in
              subst (SpellsMark line) (same_Some (ToIface rest) mark a.1) (q.0, ap (λ l. l ∷ sign ∷ rest) (same_code letter 88 p.0) ∙ q.1)
          | inr d ↦ elim (chosen (letter == 85 && (sign == 32 && is_written rest)) d.1) [
            | inl a ↦
                let p = and_parts (letter == 85) (sign == 32 && is_written rest) a.0 in
                let q = behind 85 sign rest (is_written rest) p.1 in
                subst (SpellsMark line) (same_Some (ToEngine rest) mark a.1) (q.0, ap (λ l. l ∷ sign ∷ rest) (same_code letter 85 p.0) ∙ q.1)
            | inr n ↦ none_some n.1
          ]
        ]
      ]
    ]

-- what is spelled is read
pub spelled_read : (mark : Mark) → IsMarkSpelled mark → mark_spelled (mark_text mark) ≡ Some mark
spelled_read (Happens Open) s = absurd s
spelled_read (Happens (Iface line)) s = rw s refl
spelled_read (Happens IfaceLong) s = refl
spelled_read (Happens IfaceEnd) s = refl
spelled_read (Happens IfaceLost) s = refl
spelled_read (Happens (Engine line)) s = rw s refl
spelled_read (Happens EngineLong) s = refl
spelled_read (Happens EngineEnd) s = refl
spelled_read (Happens EngineLost) s = refl
spelled_read (ToIface line) s = rw s refl
spelled_read (ToEngine line) s = rw s refl

pub read_of : (line : List ℕ) (mark : Mark) → SpellsMark line mark → mark_spelled line ≡ Some mark
read_of line mark s = ap mark_spelled s.1 ∙ spelled_read mark s.0

pub read_ok : (line : List ℕ) (r : Result code.Mark BadMark) → mark_if_read r ≡ mark_spelled line → IfOk r (λ m. SpellsMark line (plain_mark m))
read_ok line (Ok m) e = read_spelled line (plain_mark m) (sym e)
read_ok line (Err bad) e = tt

pub read_none : (line : List ℕ) (r : Result code.Mark BadMark) → mark_if_read r ≡ mark_spelled line → OnErr r (SpellsNone line)
read_none line (Ok m) e = tt
read_none line (Err bad) e = λ mark s. none_some (e ∙ read_of line mark s)
