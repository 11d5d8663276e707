pub mod AFewRows
pub mod FillingLaws
pub mod ValueLaws
pub mod SizeLaws
pub mod RowLaws
pub mod SignLaws
pub mod Shown
pub mod CodesApart
