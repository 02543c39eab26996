-- The bytes that a sink took so far, and then of more.
use Rattle.std.proofs.Common.{◌≡◌, List, ℕ, [], ◌++◌, Bool, true, false, refl, sym, ap, subst, ◌∙◌, append_assoc, arith}
use Rattle.std.proofs.KnownBytes.{Appends-nil, Appends-trans}
use Rattle.line_io.specs.Source.{Received}
use Rattle.event_pipe.specs.Counts.{CountsFault}
use Rattle.program_lifecycle.specs.Streams.{Offered}
use Rattle.program_lifecycle.specs.Took.{LogTook}

pub took_nothing : (o : Received) → LogTook [] false o o
took_nothing o = record { whole = λ _. Appends-nil o.taken; prefix = λ x. cc; count = record { later = omega arith; rose = λ x. cc; same = λ _. refl } }

count_then : (text : List ℕ) (failed : Bool) (o0 o o' : Received) → LogTook text false o0 o → CountsFault o.faults o'.faults failed → CountsFault o0.faults o'.faults failed
count_then text failed o0 o o' a t = subst (λ n. CountsFault n o'.faults failed) (a.count.same refl) t

pub took_then : (text more : List ℕ) (failed : Bool) (o0 o o' : Received) → LogTook text false o0 o → LogTook more failed o o' → LogTook (text ++ more) failed o0 o'
took_then text more false o0 o o' a b =
    record { whole = λ _. Appends-trans o0.taken o.taken o'.taken text more (a.whole refl) (b.whole refl); prefix = λ x. cc; count = count_then text false o0 o o' a b.count }
took_then text more true o0 o o' a b =
    let f = b.prefix refl in
    record {
      whole = λ x. cc;
      prefix = λ _. record { prefix = text ++ f.prefix; rest = f.rest; is = ap (λ l. text ++ l) f.is ∙ sym (append_assoc text f.prefix f.rest); took = Appends-trans o0.taken o.taken o'.taken text f.prefix (a.whole refl) f.took };
      count = count_then text true o0 o o' a b.count;
    }

-- the offered bytes were taken, or a prefix of them
pub took_offered : (piece : List ℕ) (failed : Bool) (o o' : Received) → Offered false failed o o' piece → LogTook piece failed o o'
took_offered piece failed o o' y = record { whole = y.whole; prefix = λ e. (y.prefix refl e).1; count = y.count refl }

pub took_next : (failed failed' : Bool) (text piece : List ℕ) (o0 o o' : Received) → LogTook text failed o0 o → Offered failed failed' o o' piece → LogTook (text ++ piece) failed' o0 o'
took_next false failed' text piece o0 o o' x y = took_then text piece failed' o0 o o' x (took_offered piece failed' o o' y)
took_next true failed' text piece o0 o o' x y =
    let s = y.stays refl in
    let f = x.prefix refl in
    subst (λ (b : Bool). LogTook (text ++ piece) b o0 o') (sym s.0)
    (subst (λ (z : Received). LogTook (text ++ piece) true o0 z) (sym s.1)
    (record {
      whole = λ e. cc;
      prefix = λ _. record { prefix = f.prefix; rest = f.rest ++ piece; is = ap (λ l. l ++ piece) f.is ∙ append_assoc f.prefix f.rest piece; took = f.took };
      count = x.count;
    }))
