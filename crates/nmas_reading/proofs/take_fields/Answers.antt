-- `nmas_reading::take_fields` meets its contract. Group after group, from no field on. Assumes nothing.
use Rattle.nmas_reading.proofs.Fields.{goes_on, goes_stop, fields_all}
use Rattle.nmas_reading.proofs.take_fields.Goals as goal

pub returns-in_err-times : goal.returns-in_err-times
returns-in_err-times c = let all = fields_all c.requires (goes_stop c.in_err-times.ensures) in
    record { fields_len = all.0; fields_found = rw c.from_residual.ensures all.1 }

pub returns-in_err-names : goal.returns-in_err-names
returns-in_err-names c = let all = fields_all c.requires (goes_stop (goes_on c.in_ok-times.ensures c.in_err-names.ensures)) in
    record { fields_len = all.0; fields_found = rw c.from_residual-in_err-names.ensures all.1 }

pub returns-in_err-amounts : goal.returns-in_err-amounts
returns-in_err-amounts c = let all = fields_all c.requires (goes_stop (goes_on (goes_on c.in_ok-times.ensures c.in_ok-names.ensures) c.in_err-amounts.ensures)) in
    record { fields_len = all.0; fields_found = rw c.from_residual-in_err-amounts.ensures all.1 }

pub returns-in_err-energies : goal.returns-in_err-energies
returns-in_err-energies c = let all = fields_all c.requires (goes_stop (goes_on (goes_on (goes_on c.in_ok-times.ensures c.in_ok-names.ensures) c.in_ok-amounts.ensures) c.in_err-energies.ensures)) in
    record { fields_len = all.0; fields_found = rw c.from_residual-in_err-energies.ensures all.1 }

pub returns : goal.returns
returns c = let all = fields_all c.requires (goes_on (goes_on (goes_on (goes_on c.in_ok-times.ensures c.in_ok-names.ensures) c.in_ok-amounts.ensures) c.in_ok-energies.ensures) c.take_shares.ensures) in
    record { fields_len = all.0; fields_found = all.1 }
