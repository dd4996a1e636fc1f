-- One computed test over the table of examples, and the lemma that turns it into what each of them says.
use Rattle.std.proofs.Common.{◌≡◌, ℕ, zero, suc, Bool, true, false, ◌&&◌, eqb, List, [], ◌∷◌, Ok, Err, codes, Result, sym, refl, ap, ◌∙◌}
use Rattle.std.proofs.lemmas.Slice.Eq.{bytes_eq-Decides}
use Rattle.std.proofs.lemmas.Bool.{and_parts, both_ways, eqb-true}
use Rattle.std.specs.Str.{bytes_eq}
use Rattle.std.specs.Fmt.{digits}
use Rattle.names.specs.declared.fault.NameFault.{NameFault}
use Rattle.names.specs.declared.fault.NameFault.TheVariants.{Empty, BadEntity, TooLong, LoneHyphen}
use Rattle.names.specs.Names.{decoded}
use Rattle.spreading.specs.Spreading.{loads}
use Rattle.analysis.specs.declared.lateness.Lateness.{Lateness}
use Rattle.analysis.specs.declared.lateness.Lateness.TheVariants.{NoBound, Whole}
use Rattle.analysis.specs.declared.lateness.WeighFault.{WeighFault}
use Rattle.analysis.specs.declared.lateness.WeighFault.TheVariants as fault
use Rattle.analysis.specs.declared.part.PartKind.TheVariants.{Before, Critical, After}
use Rattle.analysis.specs.Parts.{row_at}
use Rattle.planning.specs.Planning.{planner_text}
use Rattle.worked_examples.specs.Examples.{AllHold, Example, Gives, Holds, Run, decodes, late, loaded, misspelt, prints, run_of, runs, table_of, weighed, written}
use Rattle.worked_examples.specs.Table.{Examples-hold, examples}

-- a test that failed has not passed
failed : {P : Type 0} → false ≡ true → P
failed t = absurd (both_ways false refl t)

same : (xs ys : List ℕ) → bytes_eq xs ys ≡ true → xs ≡ ys
same xs ys t = (bytes_eq-Decides xs ys).0 t

-- an answer is no fault, and passes a test
abbrev passes : {X E : Type 0} → Result X E → (X → Bool) → Bool
passes (Ok x) test = test x
passes (Err e) test = false

passes-gives : {X E : Type 0} (r : Result X E) (test : X → Bool) (P : X → Type 0) → ((x : X) → test x ≡ true → P x) → passes r test ≡ true → Gives r P
passes-gives (Ok x) test P means t = means x t
passes-gives (Err e) test P means t = failed t

passes-is : {X E : Type 0} (r : Result X E) (test : X → Bool) (x : X) → ((y : X) → test y ≡ true → y ≡ x) → passes r test ≡ true → r ≡ Ok x
passes-is (Ok y) test x means t = ap Ok (means y t)
passes-is (Err e) test x means t = failed t

-- an answer is that the `&` at this byte begins no entity
abbrev is_misspelt : Result (List ℕ) NameFault → ℕ → Bool
is_misspelt (Ok n) byte = false
is_misspelt (Err Empty) byte = false
is_misspelt (Err (BadEntity at)) byte = eqb at byte
is_misspelt (Err (TooLong at)) byte = false
is_misspelt (Err LoneHyphen) byte = false

misspelt-is : (r : Result (List ℕ) NameFault) (byte : ℕ) → is_misspelt r byte ≡ true → r ≡ Err (BadEntity byte)
misspelt-is (Ok n) byte t = failed t
misspelt-is (Err Empty) byte t = failed t
misspelt-is (Err (BadEntity at)) byte t = ap (λ (k : ℕ). Err (BadEntity k)) (eqb-true at byte t)
misspelt-is (Err (TooLong at)) byte t = failed t
misspelt-is (Err LoneHyphen) byte t = failed t

abbrev same_run : Run → Run → Bool
same_run x y =
    bytes_eq x.name y.name
    && (eqb x.home y.home
    && (eqb x.bounds.before y.bounds.before
    && (eqb x.bounds.critical y.bounds.critical
    && (eqb x.bounds.after y.bounds.after && eqb x.sum y.sum))))

run_is : (x y : Run) → same_run x y ≡ true → x ≡ y
run_is x y t =
    let p = and_parts _ _ t in
    let q = and_parts _ _ p.1 in
    let r = and_parts _ _ q.1 in
    let s = and_parts _ _ r.1 in
    let u = and_parts _ _ s.1 in
    let name = same x.name y.name p.0 in
    let home = eqb-true x.home y.home q.0 in
    let before = eqb-true x.bounds.before y.bounds.before r.0 in
    let critical = eqb-true x.bounds.critical y.bounds.critical s.0 in
    let after = eqb-true x.bounds.after y.bounds.after u.0 in
    let sum = eqb-true x.sum y.sum u.1 in
    λ i. record { name = name i; home = home i; bounds = record { before = before i; critical = critical i; after = after i }; sum = sum i }

-- a way to be late as a number, and back
abbrev coded : Lateness → ℕ
coded (NoBound Before) = 0
coded (NoBound Critical) = 1
coded (NoBound After) = 2
coded Whole = 3

abbrev meant : ℕ → Lateness
meant zero = NoBound Before
meant (suc zero) = NoBound Critical
meant (suc (suc zero)) = NoBound After
meant (suc (suc (suc n))) = Whole

meant-coded : (l : Lateness) → meant (coded l) ≡ l
meant-coded (NoBound Before) = refl
meant-coded (NoBound Critical) = refl
meant-coded (NoBound After) = refl
meant-coded Whole = refl

-- an answer is that this task is late in this way
abbrev is_late : {X : Type 0} → Result X WeighFault → ℕ → Lateness → Bool
is_late (Ok x) k l = false
is_late (Err fault.Box) k l = false
is_late (Err fault.Seat) k l = false
is_late (Err (fault.Late j m)) k l = eqb j k && eqb (coded m) (coded l)
is_late (Err fault.Memory) k l = false

late_is : {X : Type 0} (r : Result X WeighFault) (k : ℕ) (l : Lateness) → is_late r k l ≡ true → r ≡ Err (fault.Late k l)
late_is (Ok x) k l t = failed t
late_is (Err fault.Box) k l t = failed t
late_is (Err fault.Seat) k l t = failed t
late_is (Err (fault.Late j m)) k l t =
    let p = and_parts (eqb j k) (eqb (coded m) (coded l)) t in
    let task = eqb-true j k p.0 in
    let way = sym (meant-coded m) ∙ ap meant (eqb-true (coded m) (coded l) p.1) ∙ meant-coded l in
    cc
late_is (Err fault.Memory) k l t = failed t

-- whether the definitions give an example's answer
abbrev right : Example → Bool
right (decodes field name) = passes (decoded (codes field)) (λ n. bytes_eq n (codes name))
right (misspelt field byte) = is_misspelt (decoded (codes field)) byte
right (loaded desk numbers) = passes (table_of desk) (λ t. bytes_eq (loads t) numbers)
right (runs desk setting k run) = passes (table_of desk) (λ t. passes (weighed setting t) (λ p. same_run (run_of p k) run))
right (late desk setting k name lateness) =
    passes (table_of desk) (λ t. is_late (weighed setting t) k lateness && bytes_eq (row_at t.tasks k).name (codes name))
right (prints desk input output) = bytes_eq (planner_text (written input) (written desk.resources) (written desk.tasks)) (written output)

right-holds : (e : Example) → right e ≡ true → Holds e
right-holds (decodes field name) pass = passes-is (decoded (codes field)) _ (codes name) (λ n. same n (codes name)) pass
right-holds (misspelt field byte) pass = misspelt-is (decoded (codes field)) byte pass
right-holds (loaded desk numbers) pass = passes-gives (table_of desk) _ _ (λ t. same (loads t) numbers) pass
right-holds (runs desk setting k run) pass =
    passes-gives (table_of desk) _ _ (λ t. passes-gives (weighed setting t) _ _ (λ p. run_is (run_of p k) run)) pass
right-holds (late desk setting k name lateness) pass =
    passes-gives (table_of desk) _ _
    (λ t both.
    let p = and_parts (is_late (weighed setting t) k lateness) (bytes_eq (row_at t.tasks k).name (codes name)) both in
    (late_is (weighed setting t) k lateness p.0, same (row_at t.tasks k).name (codes name) p.1))
    pass
right-holds (prints desk input output) pass = same _ _ pass

abbrev all_right : List Example → Bool
all_right [] = true
all_right (e ∷ es) = right e && all_right es

all_hold : (es : List Example) → all_right es ≡ true → AllHold es
all_hold [] pass = tt
all_hold (e ∷ es) pass = let p = and_parts (right e) (all_right es) pass in (right-holds e p.0, all_hold es p.1)

-- the test of the whole table, computed; what is printed needs the digits of its numbers
pub examples-hold : Examples-hold
unfolding digits
examples-hold = all_hold examples refl
