-- The bytes of a book and of dispatch rows from their fields, in the order in which 01, The book, and 02, Req 01, have them.
use Rattle.std.specs.Prelude.{ℕ, List, [], ◌∷◌, ◌++◌, ℤ}
use Rattle.std.specs.Int.{w32}
use Rattle.std.proofs.Common.{of_z}
use Rattle.ground.specs.Le.{le16, le32, int64}

-- a number with a sign in 32 bits, two's complement
unfoldable pub int32 : ℤ → List ℕ
int32 z = le32 (of_z w32 z)

-- "the three letters RCB; reserved byte; 16-bit version 1; interval; date; run; counts of constraints, unit rows, energy rows, contracts;
-- reserved u16"
abbrev pub header_bytes : ℕ → ℕ → ℕ → ℕ → ℕ → ℕ → ℕ → List ℕ
header_bytes interval date run constraints units energies contracts =
    (82 ∷ 67 ∷ 66 ∷ 0 ∷ [])
    ++ le16 1
    ++ le16 interval
    ++ le32 date
    ++ le16 run
    ++ le16 constraints
    ++ le16 units
    ++ le16 energies
    ++ le16 contracts
    ++ le16 0

-- "total ACE, total ASOE, residual total"
abbrev pub entry_bytes : ℤ → ℤ → ℤ → List ℕ
entry_bytes ace asoe residual = int32 ace ++ int32 asoe ++ int32 residual

-- "id; service; regions; mode; reserved byte; cost; price; RCR; usage; RCF; DRCF; reserved u32"
abbrev pub constraint_bytes : ℕ → ℕ → ℕ → ℕ → ℤ → ℕ → ℕ → ℕ → ℤ → ℤ → List ℕ
constraint_bytes id service regions mode cost price rcr usage rcf drcf =
    le32 id ++ (service ∷ regions ∷ mode ∷ 0 ∷ []) ++ int64 cost ++ le32 price ++ le32 rcr ++ le32 usage ++ int32 rcf ++ int32 drcf ++ le32 0

-- "constraint id, unit id, account; CF; DCF"
abbrev pub unit_bytes : ℕ → ℕ → ℕ → ℤ → ℤ → List ℕ
unit_bytes owner unit account cf dcf = le32 owner ++ le32 unit ++ le32 account ++ int32 cf ++ int32 dcf

-- "account; region; three reserved bytes; ACE; ASOE; residual ACE; residual ASOE"
abbrev pub energy_bytes : ℕ → ℕ → ℤ → ℤ → ℤ → ℤ → List ℕ
energy_bytes account region ace asoe race rasoe =
    le32 account ++ (region ∷ 0 ∷ 0 ∷ 0 ∷ []) ++ int32 ace ++ int32 asoe ++ int32 race ++ int32 rasoe

-- "id; kind; three reserved bytes; payment; five regional benefit factors"
abbrev pub contract_bytes : ℕ → ℕ → ℤ → ℕ → ℕ → ℕ → ℕ → ℕ → List ℕ
contract_bytes id kind payment nsw qld sa tas vic =
    le32 id ++ (kind ∷ 0 ∷ 0 ∷ 0 ∷ []) ++ int64 payment ++ le32 nsw ++ le32 qld ++ le32 sa ++ le32 tas ++ le32 vic

-- "id u32, service u8, region u8, reserved u16, price u32 in cents, enablement u32 in hundredths of a MW"
abbrev pub dispatch_bytes : ℕ → ℕ → ℕ → ℕ → ℕ → List ℕ
dispatch_bytes id service region price enablement = le32 id ++ (service ∷ region ∷ []) ++ le16 0 ++ le32 price ++ le32 enablement
