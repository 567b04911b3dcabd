-- The number by which dispatch rows rise. Only contracts of inner functions speak of it.
use Rattle.std.specs.Prelude.{ℕ, ◌+◌, ◌*◌}
use Rattle.dispatch.specs.declared.DispatchRow.{DispatchRow}

-- rows rise by id, then by service, then by region, where these numbers rise
abbrev pub id_service_region : DispatchRow → ℕ
id_service_region r = r.id * 65_536 + (r.service * 256 + r.region)
