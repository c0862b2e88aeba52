pub mod StatusTable
