-- The words of the market's papers: regions, and what a restart contract's rows are marked with. Document 003, Table 1; 02, Req 05.
use Rattle.std.specs.Prelude.{ℕ, List, [], ◌∷◌, get_or}

-- 01, The book: "in the order NSW1, QLD1, SA1, TAS1, VIC1"
abbrev pub region_names : List (List ℕ)
region_names =
    (78 ∷ 83 ∷ 87 ∷ 49 ∷ [])
    ∷ (81 ∷ 76 ∷ 68 ∷ 49 ∷ [])
    ∷ (83 ∷ 65 ∷ 49 ∷ [])
    ∷ (84 ∷ 65 ∷ 83 ∷ 49 ∷ [])
    ∷ (86 ∷ 73 ∷ 67 ∷ 49 ∷ [])
    ∷ []

-- a region's name, by its number
abbrev pub region_name : ℕ → List ℕ
region_name g = get_or region_names g []

-- document 003, PAYMENTTYPE: "Valid values are: AVAILABILITY, ENABLEMENT, COMPENSATION"
abbrev pub payment_types : List (List ℕ)
payment_types =
    (65 ∷ 86 ∷ 65 ∷ 73 ∷ 76 ∷ 65 ∷ 66 ∷ 73 ∷ 76 ∷ 73 ∷ 84 ∷ 89 ∷ [])
    ∷ (69 ∷ 78 ∷ 65 ∷ 66 ∷ 76 ∷ 69 ∷ 77 ∷ 69 ∷ 78 ∷ 84 ∷ [])
    ∷ (67 ∷ 79 ∷ 77 ∷ 80 ∷ 69 ∷ 78 ∷ 83 ∷ 65 ∷ 84 ∷ 73 ∷ 79 ∷ 78 ∷ [])
    ∷ []

-- a payment type's name, by its number
abbrev pub payment_type_name : ℕ → List ℕ
payment_type_name t = get_or payment_types t []

-- 02, Req 05: "SERVICE is RESTART"
abbrev pub restart_name : List ℕ
restart_name = 82 ∷ 69 ∷ 83 ∷ 84 ∷ 65 ∷ 82 ∷ 84 ∷ []
